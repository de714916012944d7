-- `walk::addr_of` meets its contract. Assumes nothing.
use borrow.Author.Rules.{rules}
use Rattle.text.proofs.Search.{outright}
use Rattle.lists.proofs.WalkLaws.{addr_v4, addr_v6}
use Rattle.lists.proofs.walk.addr_of.Goals as goal

pub returns-in-V4 : goal.returns-in-V4
returns-in-V4 c = outright (search (addr_v4, rules))

pub returns-in-V6 : goal.returns-in-V6
returns-in-V6 c = outright (search (addr_v6, rules))
