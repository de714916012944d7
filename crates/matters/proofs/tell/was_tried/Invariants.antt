-- `tell::was_tried` meets its contract. The invariant: h was tried exactly if it is one of the first k noted. The measure is k. Assumes nothing.
use Rattle.matters.proofs.HalfLaws.{Looking}
use Rattle.matters.proofs.tell.was_tried.Given as goal

abbrev pub invariant-loop-k : goal.invariant-loop-k
invariant-loop-k l = Looking l.s l.places l.n l.h l.k

abbrev pub decreases-loop-k : goal.decreases-loop-k
decreases-loop-k l = l.k
