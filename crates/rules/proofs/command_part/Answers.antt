-- `rules::command_part` meets its contract: by the file that decided.
-- Assumes nothing.
use borrow.Author.Rules.{rules}
use Rattle.text.proofs.Search.{outright}
use Rattle.rules.proofs.DecideLaws.{command_allow, command_deny}
use Rattle.rules.proofs.command_part.Goals as goal

pub returns-in-Allow : goal.returns-in-Allow
returns-in-Allow c = outright (search (command_allow, rules))

pub returns-in-Deny : goal.returns-in-Deny
returns-in-Deny c = outright (search (command_deny, rules))
