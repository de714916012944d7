-- `names::hash` meets its contract. The invariant is `Hashing`: the number made so far and the bytes left give the number.
-- The measure is the count of the bytes left. Assumes nothing.
use Prim.Native.Nat.{◌-◌}
use lib.ListN.{length}
use Rattle.views.proofs.NamesLaws.{Hashing}
use Rattle.views.proofs.names.hash.Given as goal

abbrev pub invariant-loop-i : goal.invariant-loop-i
invariant-loop-i l = Hashing l.name l.made l.i

abbrev pub decreases-loop-i : goal.decreases-loop-i
decreases-loop-i l = length l.name - l.i
