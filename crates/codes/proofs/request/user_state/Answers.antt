-- Each answer by the tests that led there. Assumes nothing.
use borrow.Author.Rules.{rules}
use Rattle.text.proofs.Search.{outright}
use Rattle.codes.proofs.RequestLaws.{user_not_fetched, user_known_lem, user_else}
use Rattle.codes.proofs.request.user_state.Goals as goal

pub returns-then-n-eq0 : goal.returns-then-n-eq0
returns-then-n-eq0 c = outright (search (user_not_fetched, rules))

pub returns-then-n-eq2 : goal.returns-then-n-eq2
returns-then-n-eq2 c = outright (search (user_known_lem, rules))

pub returns : goal.returns
returns c = outright (search (user_else, rules))
