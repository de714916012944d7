-- `pass::daemon_step` meets its contract: the element is read once, for the check and for what it finds. Assumes nothing.
use borrow.Author.Rules.{rules}
use Rattle.text.proofs.Search.{outright}
use Rattle.lists.proofs.PassLaws.{daemon_step_is}
use Rattle.lists.proofs.pass.daemon_step.Goals as goal

pub returns : goal.returns
returns c = outright (search (daemon_step_is, rules))
