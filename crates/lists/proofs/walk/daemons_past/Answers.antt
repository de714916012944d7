-- `walk::daemons_past` meets its contract: the excluded side, of the host's numbers. Assumes nothing.
use borrow.Author.Rules.{rules}
use Rattle.text.proofs.Search.{outright}
use Rattle.lists.proofs.WalkLaws.{daemons_past}
use Rattle.lists.proofs.walk.daemons_past.Goals as goal

pub returns : goal.returns
returns c = outright (search (daemons_past, rules))
