-- The sides of EXCEPT in a client list, `walk::clients_included_from` and `walk::clients_excluded_from`, meet their contracts, by the laws of one
-- step. The measure of both is the length of what is left of the list. Assumes nothing.
use lib.ListN.{length, drop}
use Rattle.lists.proofs.walk.+clients_excluded_from_clients_included_from.Given as goal

abbrev pub decreases-clients_excluded_from : goal.decreases-clients_excluded_from
decreases-clients_excluded_from l = length (drop l.from l.list.now.now)

abbrev pub decreases-clients_included_from : goal.decreases-clients_included_from
decreases-clients_included_from l = length (drop l.from l.list.now.now)
