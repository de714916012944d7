-- `names::note_names` meets its contract. The invariant is `Noting`: the notes tell the names of the tables passed. The measure is the count of
-- the others. Assumes nothing.
use Prim.Native.Nat.{◌-◌}
use Rattle.views.proofs.NamesLaws.{Noting}
use Rattle.views.proofs.names.note_names.Given as goal

abbrev pub invariant-loop-i : goal.invariant-loop-i
invariant-loop-i l = Noting l.tables l.n l.rest l.i l.notes

abbrev pub decreases-loop-i : goal.decreases-loop-i
decreases-loop-i l = l.n - l.i
