-- `tell::settle` meets its contract. Assumes nothing.
use borrow.Author.Rules.{rules}
use Rattle.text.proofs.Search.{outright}
use Rattle.matters.proofs.SettleLaws.{few_tables, settle_is}
use Rattle.matters.proofs.tell.settle.Goals as goal

pub notes_on-notes-requires : goal.notes_on-notes-requires
notes_on-notes-requires c = outright (search (few_tables, rules))

pub returns : goal.returns
returns c = outright (search (settle_is, rules))
