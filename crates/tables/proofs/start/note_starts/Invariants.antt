-- `start::note_starts` meets its contract. The invariant is `Starting`: of the tables passed, what was made tells where those of each number start.
-- The measure is the count of the others. Assumes nothing.
use Prim.Native.Nat.{◌-◌}
use Rattle.tables.proofs.StartLaws.{Starting}
use Rattle.tables.proofs.start.note_starts.Given as goal

abbrev pub invariant-loop-i : goal.invariant-loop-i
invariant-loop-i l = Starting l.tables l.n l.rest l.i l.made

abbrev pub decreases-loop-i : goal.decreases-loop-i
decreases-loop-i l = l.n - l.i
