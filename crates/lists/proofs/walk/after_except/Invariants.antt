-- `walk::after_except` meets its contract. Assumes nothing.
use lib.ListN.{length}
use Rattle.lists.proofs.WalkLaws.{Passed}
use Rattle.lists.proofs.walk.after_except.Given as goal

abbrev pub invariant-loop-w : goal.invariant-loop-w
invariant-loop-w l = Passed l.s l.rest

abbrev pub decreases-loop-w : goal.decreases-loop-w
decreases-loop-w l = length l.rest
