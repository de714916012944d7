-- `search::command_start` meets its contract. Assumes nothing.
use borrow.Author.Rules.{rules}
use Rattle.text.proofs.Search.{outright}
use Rattle.index.proofs.EntryLaws.{command_start_next, command_start_end}
use Rattle.index.proofs.search.command_start.Goals as goal

pub returns-then-entry : goal.returns-then-entry
returns-then-entry c = outright (search (command_start_next, rules))

pub returns : goal.returns
returns c = outright (search (command_start_end, rules))
