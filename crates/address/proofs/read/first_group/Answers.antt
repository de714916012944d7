-- `address::read::first_group` meets its contract: the group ends at the first colon. Assumes nothing.
use mathlib.Core.Path.{sym}
use lib.Seq.{length-take-le}
use borrow.Author.Rules.{rules}
use Rattle.text.proofs.Search.{outright}
use Rattle.address.proofs.RowLaws.{group_last, group_nothing, group_more}
use Rattle.address.proofs.read.first_group.Goals as goal

pub returns-then-i-s : goal.returns-then-i-s
returns-then-i-s c = outright (search (group_last, rules))

pub slice_bounds-read_group-end : goal.slice_bounds-read_group-end
slice_bounds-read_group-end c = sym (length-take-le _ _ (search rules))

pub returns-in-None : goal.returns-in-None
returns-in-None c = outright (search (group_nothing, rules))

pub returns-in-Some : goal.returns-in-Some
returns-in-Some c = outright (search (group_more, rules))
