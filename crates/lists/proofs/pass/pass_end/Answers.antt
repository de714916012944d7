-- `pass::pass_end` meets its contract. Assumes nothing.
use borrow.Author.Rules.{rules}
use Rattle.text.proofs.Search.{outright}
use Rattle.lists.proofs.PassLaws.{pass_end_is}
use Rattle.lists.proofs.pass.pass_end.Goals as goal

pub returns : goal.returns
returns c = outright (search (pass_end_is, rules))
