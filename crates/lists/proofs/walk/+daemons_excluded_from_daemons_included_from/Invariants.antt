-- The sides of EXCEPT in a daemon list, `walk::daemons_included_from` and `walk::daemons_excluded_from`, meet their contracts, by the laws of one
-- step. The measure of both is the length of what is left of the list. Assumes nothing.
use lib.ListN.{length, drop}
use Rattle.lists.proofs.walk.+daemons_excluded_from_daemons_included_from.Given as goal

abbrev pub decreases-daemons_excluded_from : goal.decreases-daemons_excluded_from
decreases-daemons_excluded_from l = length (drop l.from l.list.now.now)

abbrev pub decreases-daemons_included_from : goal.decreases-daemons_included_from
decreases-daemons_included_from l = length (drop l.from l.list.now.now)
