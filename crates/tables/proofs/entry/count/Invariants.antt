-- `entry::count` meets its contract. The invariant is `Reached`: the rest holds the tables that were not passed.
-- The measure is their count. Assumes nothing.
use Prim.Native.Nat.{◌-◌}
use Rattle.tables.proofs.EntryLaws.{Reached}
use Rattle.tables.proofs.entry.count.Given as goal

abbrev pub invariant-loop-i : goal.invariant-loop-i
invariant-loop-i l = Reached l.tables l.n l.rest l.i

abbrev pub decreases-loop-i : goal.decreases-loop-i
decreases-loop-i l = l.n - l.i
