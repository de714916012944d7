-- Each answer by the tests that led there. Assumes nothing.
use borrow.Author.Rules.{rules}
use Rattle.text.proofs.Search.{outright}
use Rattle.codes.proofs.RequestLaws.{address_v4, address_over, address_v6, address_else}
use Rattle.codes.proofs.request.address.Goals as goal

pub returns-then-low-lt4294967296 : goal.returns-then-low-lt4294967296
returns-then-low-lt4294967296 c = outright (search (address_v4, rules))

pub returns-then-kind-eq4 : goal.returns-then-kind-eq4
returns-then-kind-eq4 c = outright (search (address_over, rules))

pub returns-then-kind-eq6 : goal.returns-then-kind-eq6
returns-then-kind-eq6 c = outright (search (address_v6, rules))

pub returns : goal.returns
returns c = outright (search (address_else, rules))
