-- `search::command_of` meets its contract. Assumes nothing.
use borrow.Author.Rules.{rules}
use Rattle.text.proofs.Search.{outright}
use Rattle.index.proofs.EntryLaws.{command_blank, command_full}
use Rattle.index.proofs.search.command_of.Goals as goal

pub returns-then-is_blank : goal.returns-then-is_blank
returns-then-is_blank c = outright (search (command_blank, rules))

pub returns : goal.returns
returns c = outright (search (command_full, rules))
