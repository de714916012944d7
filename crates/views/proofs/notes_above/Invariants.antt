-- `notes_above` meets its contract. The invariant is `Raised`: the tables passed are marked. The measure is the count of the others. Assumes nothing.
use Prim.Native.Nat.{◌-◌}
use Rattle.views.specs.View.{is_deep}
use Rattle.views.proofs.DeepLaws.{Raised}
use Rattle.views.proofs.notes_above.Given as goal

abbrev pub invariant-loop-i : goal.invariant-loop-i
invariant-loop-i l = Raised l.tables (is_deep l.below) l.n l.rest l.notes l.i

abbrev pub decreases-loop-i : goal.decreases-loop-i
decreases-loop-i l = l.n - l.i
