-- `check::bad_command` meets its contract: each call gives the next its text. Assumes nothing.
use borrow.Author.Rules.{rules}
use Rattle.text.proofs.Search.{outright}
use Rattle.lists.proofs.CheckLaws.{bad_command_after_is}
use Rattle.lists.proofs.check.bad_command.Goals as goal

pub returns : goal.returns
returns c = outright (search (bad_command_after_is, rules))
