-- `rules::hosts_file::command_of` meets its contract: what follows the second separator is the command; where there is none, nothing follows.
-- Assumes nothing.
use Rattle.rules.proofs.FileLaws.{command_within, command_blank, command_full}
use borrow.Author.Rules.{rules}
use Rattle.text.proofs.Search.{outright}
use Rattle.rules.proofs.hosts_file.command_of.Goals as goal

pub overflow_sub-place : goal.overflow_sub-place
overflow_sub-place c = outright (search (command_within, rules))

pub returns-then-is_blank : goal.returns-then-is_blank
returns-then-is_blank c = outright (search (command_blank, rules))

pub returns-else-is_blank : goal.returns-else-is_blank
returns-else-is_blank c = outright (search (command_full, rules))
