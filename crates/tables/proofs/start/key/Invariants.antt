-- `start::key` meets its contract. The invariant is `Keyed`: the number made so far and the bytes left give the number.
-- The measure is the count of the bytes left. Assumes nothing.
use Prim.Native.Nat.{◌-◌}
use lib.ListN.{length}
use Rattle.tables.proofs.StartLaws.{Keyed}
use Rattle.tables.proofs.start.key.Given as goal

abbrev pub invariant-loop-i : goal.invariant-loop-i
invariant-loop-i l = Keyed l.name l.made l.i

abbrev pub decreases-loop-i : goal.decreases-loop-i
decreases-loop-i l = length l.name - l.i
