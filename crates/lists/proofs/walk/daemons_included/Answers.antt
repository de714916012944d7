-- `walk::daemons_included` meets its contract: the elements left of the first EXCEPT, and what is past it. Assumes nothing.
use borrow.Author.Rules.{rules}
use Rattle.text.proofs.Search.{outright}
use Rattle.lists.proofs.WalkLaws.{list_done, group_within, list_more_lem}
use Rattle.lists.proofs.walk.daemons_included.Goals as goal

pub returns-then-left-eq0 : goal.returns-then-left-eq0
returns-then-left-eq0 c = outright (search (list_done, rules))

pub overflow_sub-from : goal.overflow_sub-from
overflow_sub-from c = outright (search (group_within, rules))

pub returns : goal.returns
returns c = outright (search (list_more_lem, rules))
