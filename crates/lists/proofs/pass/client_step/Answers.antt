-- `pass::client_step` meets its contract: the element is read once, for the check and for what it finds. Assumes nothing.
use borrow.Author.Rules.{rules}
use Rattle.text.proofs.Search.{outright}
use Rattle.lists.proofs.PassLaws.{client_step_is}
use Rattle.lists.proofs.pass.client_step.Goals as goal

pub returns : goal.returns
returns c = outright (search (client_step_is, rules))
