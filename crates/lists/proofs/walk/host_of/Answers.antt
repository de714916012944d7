-- `walk::host_of` meets its contract. Assumes nothing.
use borrow.Author.Rules.{rules}
use Rattle.text.proofs.Search.{outright}
use Rattle.lists.proofs.WalkLaws.{host_is}
use Rattle.lists.proofs.walk.host_of.Goals as goal

pub returns : goal.returns
returns c = outright (search (host_is, rules))
