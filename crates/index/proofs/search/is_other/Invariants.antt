-- `search::is_other` meets its contract. The loop's invariant is Wholes: all bytes are whole where those from i on are. The measure is what is left.
-- Assumes nothing.
use Prim.Native.Nat.{◌-◌}
use lib.ListN.{length}
use Rattle.index.proofs.OtherLaws.{Wholes}
use Rattle.index.proofs.search.is_other.Given as goal

abbrev pub invariant-loop-i : goal.invariant-loop-i
invariant-loop-i l = Wholes l.s l.daemon l.i

abbrev pub decreases-loop-i : goal.decreases-loop-i
decreases-loop-i l = length l.s - l.i
