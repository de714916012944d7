-- Each answer by the tests that led there. Assumes nothing.
use borrow.Author.Rules.{rules}
use Rattle.text.proofs.Search.{outright}
use Rattle.codes.proofs.RequestLaws.{v4_fits, other_fits}
use Rattle.codes.proofs.request.is_address.Goals as goal

pub returns-then-kind-eq4 : goal.returns-then-kind-eq4
returns-then-kind-eq4 c = outright (search (v4_fits, rules))

pub returns : goal.returns
returns c = outright (search (other_fits, rules))
