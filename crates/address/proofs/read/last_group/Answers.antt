-- `address::read::last_group` meets its contract: a group, or where tail holds IPv4 text. Assumes nothing.
use borrow.Author.Rules.{rules}
use Rattle.text.proofs.Search.{outright}
use Rattle.address.proofs.RowLaws.{group_lt, row_room, last_value, last_nothing, last_tail}
use Rattle.address.proofs.read.last_group.Goals as goal

pub push_group-requires : goal.push_group-requires
push_group-requires c = outright (search (row_room, group_lt, rules))

pub returns-then-tail : goal.returns-then-tail
returns-then-tail c = outright (search (last_tail, rules))

pub returns-else-tail : goal.returns-else-tail
returns-else-tail c = outright (search (last_nothing, rules))

pub returns-in-Some : goal.returns-in-Some
returns-in-Some c = outright (search (last_value, rules))
