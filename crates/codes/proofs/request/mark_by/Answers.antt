-- Each answer by the tests that led there. Assumes nothing.
use borrow.Author.Rules.{rules}
use Rattle.text.proofs.Search.{outright}
use Rattle.codes.proofs.RequestLaws.{mark_marked, mark_else}
use Rattle.codes.proofs.request.mark_by.Goals as goal

pub returns-then-n-eq1 : goal.returns-then-n-eq1
returns-then-n-eq1 c = outright (search (mark_marked, rules))

pub returns : goal.returns
returns c = outright (search (mark_else, rules))
