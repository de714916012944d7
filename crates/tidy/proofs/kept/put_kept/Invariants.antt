-- `tidy::kept::put_kept` meets its contract: the invariant is Keeping: what was kept stands at the front. The measure is what is left of the text. Assumes
-- nothing.
use Prim.Native.Nat.{◌-◌}
use lib.ListN.{length}
use Rattle.tidy.proofs.KeptLaws.{Keeping}
use Rattle.tidy.proofs.kept.put_kept.Given as goal

abbrev pub invariant-loop-i : goal.invariant-loop-i
invariant-loop-i l = Keeping l.initial.out l.text l.marks l.out l.at l.i l.n

abbrev pub decreases-loop-i : goal.decreases-loop-i
decreases-loop-i l = length l.text - l.i
