-- `pass::turn_of` meets its contract. Assumes nothing.
use borrow.Author.Rules.{rules}
use Rattle.text.proofs.Search.{outright}
use Rattle.lists.proofs.PassLaws.{turn_of_is}
use Rattle.lists.proofs.pass.turn_of.Goals as goal

pub returns : goal.returns
returns c = outright (search (turn_of_is, rules))
