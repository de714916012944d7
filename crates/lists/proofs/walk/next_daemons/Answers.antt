-- `walk::next_daemons` meets its contract: a step from a list to the list after its EXCEPT. Assumes nothing.
use borrow.Author.Rules.{rules}
use Rattle.text.proofs.Search.{outright}
use Rattle.lists.proofs.WalkLaws.{daemons_done, daemons_more, left_within}
use Rattle.lists.proofs.walk.next_daemons.Goals as goal

pub returns-then-left-eq0 : goal.returns-then-left-eq0
returns-then-left-eq0 c = outright (search (daemons_done, rules))

pub overflow_sub-result : goal.overflow_sub-result
overflow_sub-result c = outright (search (left_within, rules))

pub returns : goal.returns
returns c = outright (search (daemons_more, rules))
