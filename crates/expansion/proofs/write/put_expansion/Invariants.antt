-- `write::put_expansion` meets its contract. The loop's invariant is Expanded: the pieces before the place j are written, n bytes.
-- The measure is what is left of the command. Assumes nothing.
use Prim.Native.Nat.{◌-◌, ◌+◌}
use lib.ListN.{length}
use Rattle.expansion.specs.Code.{texts_at}
use Rattle.expansion.proofs.PieceLaws.{Expanded}
use Rattle.expansion.proofs.write.put_expansion.Given as goal

abbrev pub invariant-loop-j : goal.invariant-loop-j
invariant-loop-j l = Expanded (texts_at l.names l.texts l.g) l.t l.initial.out l.out l.n l.j

abbrev pub decreases-loop-j : goal.decreases-loop-j
decreases-loop-j l = length l.t + 1 - l.j
