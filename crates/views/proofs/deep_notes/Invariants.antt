-- `deep_notes` meets its contract. The invariant is `Deepening`: the notes are those of the depth reached. The measure is how many depths are left. Assumes
-- nothing.
use Prim.Native.Nat.{◌-◌}
use Rattle.views.proofs.DeepLaws.{Deepening}
use Rattle.views.proofs.deep_notes.Given as goal

abbrev pub invariant-loop-deep : goal.invariant-loop-deep
invariant-loop-deep l = Deepening l.tables l.depth l.notes l.deep

abbrev pub decreases-loop-deep : goal.decreases-loop-deep
decreases-loop-deep l = l.depth - l.deep
