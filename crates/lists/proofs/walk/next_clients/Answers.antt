-- `walk::next_clients` meets its contract: a step from a list to the list after its EXCEPT. Assumes nothing.
use borrow.Author.Rules.{rules}
use Rattle.text.proofs.Search.{outright}
use Rattle.lists.proofs.WalkLaws.{clients_done, clients_more, left_within}
use Rattle.lists.proofs.walk.next_clients.Goals as goal

pub returns-then-left-eq0 : goal.returns-then-left-eq0
returns-then-left-eq0 c = outright (search (clients_done, rules))

pub overflow_sub-result : goal.overflow_sub-result
overflow_sub-result c = outright (search (left_within, rules))

pub returns : goal.returns
returns c = outright (search (clients_more, rules))
