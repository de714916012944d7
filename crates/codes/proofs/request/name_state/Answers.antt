-- Each answer by the tests that led there. Assumes nothing.
use borrow.Author.Rules.{rules}
use Rattle.text.proofs.Search.{outright}
use Rattle.codes.proofs.RequestLaws.{name_paranoid, name_known_lem, name_else}
use Rattle.codes.proofs.request.name_state.Goals as goal

pub returns-then-n-eq1 : goal.returns-then-n-eq1
returns-then-n-eq1 c = outright (search (name_paranoid, rules))

pub returns-then-n-eq2 : goal.returns-then-n-eq2
returns-then-n-eq2 c = outright (search (name_known_lem, rules))

pub returns : goal.returns
returns c = outright (search (name_else, rules))
