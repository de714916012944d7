-- `tell::asks` meets its contract. Assumes nothing.
use borrow.Author.Rules.{rules}
use Rattle.text.proofs.Search.{outright}
use Rattle.matters.proofs.TellLaws.{asks_at_lem}
use Rattle.matters.proofs.tell.asks.Goals as goal

pub returns : goal.returns
returns c = outright (search (asks_at_lem, rules))
