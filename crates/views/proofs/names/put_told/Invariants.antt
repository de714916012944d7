-- `names::put_told` meets its contract. The invariant is `Telling`: the words before i are those told, the others as they were.
-- The measure is the count of the words left. Assumes nothing.
use Prim.Native.Nat.{◌-◌}
use Rattle.views.proofs.NamesLaws.{Telling}
use Rattle.views.proofs.names.put_told.Given as goal

abbrev pub invariant-loop-i : goal.invariant-loop-i
invariant-loop-i l = Telling l.initial.notes l.told l.notes l.i

abbrev pub decreases-loop-i : goal.decreases-loop-i
decreases-loop-i l = 131 - l.i
