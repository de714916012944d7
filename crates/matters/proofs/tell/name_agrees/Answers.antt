-- `tell::name_agrees` meets its contract. Assumes nothing.
use borrow.Author.Rules.{rules}
use Rattle.text.proofs.Search.{outright}
use Rattle.matters.proofs.TellLaws.{name_none, name_some}
use Rattle.matters.proofs.tell.name_agrees.Goals as goal

pub returns-then-name : goal.returns-then-name
returns-then-name c = outright (search (name_none, rules))

pub returns : goal.returns
returns c = outright (search (name_some, rules))
