-- `level::all_above` meets its contract. The invariant is `Raising`: the tables passed are counted. The measure is the count of the others.
-- Assumes nothing.
use Prim.Native.Nat.{◌-◌}
use Rattle.views.proofs.TallyLaws.{Raising}
use Rattle.views.proofs.level.all_above.Given as goal

abbrev pub invariant-loop-i : goal.invariant-loop-i
invariant-loop-i l = Raising l.tables l.first l.below l.n l.rest l.notes l.i

abbrev pub decreases-loop-i : goal.decreases-loop-i
decreases-loop-i l = l.n - l.i
