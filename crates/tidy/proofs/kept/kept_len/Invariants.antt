-- `tidy::kept::kept_len` meets its contract: the invariant is Measuring: the bytes so far. The measure is what is left of the text. Assumes nothing.
use Prim.Native.Nat.{◌-◌}
use lib.ListN.{length}
use Rattle.tidy.proofs.KeptLaws.{Measuring}
use Rattle.tidy.proofs.kept.kept_len.Given as goal

abbrev pub invariant-loop-i : goal.invariant-loop-i
invariant-loop-i l = Measuring l.text l.marks l.len l.i l.n

abbrev pub decreases-loop-i : goal.decreases-loop-i
decreases-loop-i l = length l.text - l.i
