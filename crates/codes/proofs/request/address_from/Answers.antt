-- Each answer by the test that led there. Assumes nothing.
use borrow.Author.Rules.{rules}
use Rattle.text.proofs.Search.{outright}
use Rattle.codes.proofs.RequestLaws.{address_marked, address_unmarked}
use Rattle.codes.proofs.request.address_from.Goals as goal

pub returns-then-is_mark : goal.returns-then-is_mark
returns-then-is_mark c = outright (search (address_marked, rules))

pub returns : goal.returns
returns c = outright (search (address_unmarked, rules))
