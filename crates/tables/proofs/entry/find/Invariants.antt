-- `entry::find` meets its contract. The invariant is `Sought`: none of the tables passed has the name.
-- The measure is the count of the others. Assumes nothing.
use Prim.Native.Nat.{◌-◌}
use Rattle.tables.proofs.EntryLaws.{Sought}
use Rattle.tables.proofs.entry.find.Given as goal

abbrev pub invariant-loop-i : goal.invariant-loop-i
invariant-loop-i l = Sought l.tables l.name l.n l.rest l.i

abbrev pub decreases-loop-i : goal.decreases-loop-i
decreases-loop-i l = l.n - l.i
