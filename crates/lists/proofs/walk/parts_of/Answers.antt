-- `walk::parts_of` meets its contract. Assumes nothing.
use borrow.Author.Rules.{rules}
use Rattle.text.proofs.Search.{outright}
use Rattle.lists.proofs.WalkLaws.{parts_unknown, parts_v4, parts_v6}
use Rattle.lists.proofs.walk.parts_of.Goals as goal

pub returns-in-Unknown : goal.returns-in-Unknown
returns-in-Unknown c = outright (search (parts_unknown, rules))

pub returns-in-V4 : goal.returns-in-V4
returns-in-V4 c = outright (search (parts_v4, rules))

pub returns-in-V6 : goal.returns-in-V6
returns-in-V6 c = outright (search (parts_v6, rules))
