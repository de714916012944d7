-- `write::expansion_length` meets its contract. The loop's invariant is Measured: the pieces before the place i write n bytes.
-- The measure is what is left of the command. Assumes nothing.
use Prim.Native.Nat.{◌-◌, ◌+◌}
use lib.ListN.{length}
use Rattle.expansion.specs.Code.{texts_at}
use Rattle.expansion.proofs.PieceLaws.{Measured}
use Rattle.expansion.proofs.write.expansion_length.Given as goal

abbrev pub invariant-loop-i : goal.invariant-loop-i
invariant-loop-i l = Measured (texts_at l.names l.texts l.g) l.t l.n l.i

abbrev pub decreases-loop-i : goal.decreases-loop-i
decreases-loop-i l = length l.t + 1 - l.i
