-- `tell::clients_find` meets its contract. Assumes nothing.
use borrow.Author.Rules.{rules}
use Rattle.text.proofs.Search.{outright}
use Rattle.matters.proofs.TellLaws.{clients_at}
use Rattle.matters.proofs.tell.clients_find.Goals as goal

pub returns : goal.returns
returns c = outright (search (clients_at, rules))
