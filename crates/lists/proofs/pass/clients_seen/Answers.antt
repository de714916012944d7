-- `pass::clients_seen` meets its contract: the names are those at the places. Assumes nothing.
use borrow.Author.Rules.{rules}
use Rattle.text.proofs.Search.{outright}
use Rattle.lists.proofs.PassLaws.{clients_at}
use Rattle.lists.proofs.pass.clients_seen.Goals as goal

pub returns : goal.returns
returns c = outright (search (clients_at, rules))
