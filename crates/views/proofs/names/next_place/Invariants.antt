-- `names::next_place` meets its contract. The invariant is `Skipped`: no place passed has the number. The measure is the count of the others.
-- Assumes nothing.
use Prim.Native.Nat.{◌-◌}
use Rattle.views.specs.Names.{Skipped}
use Rattle.views.proofs.names.next_place.Given as goal

abbrev pub invariant-loop-i : goal.invariant-loop-i
invariant-loop-i l = Skipped l.notes l.sought l.start l.i

abbrev pub decreases-loop-i : goal.decreases-loop-i
decreases-loop-i l = 64 - l.i
