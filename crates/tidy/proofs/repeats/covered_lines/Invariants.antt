-- `tidy::repeats::covered_lines` meets its contract: the invariant is Marking: what is marked, what hangs in the chains, and what is left. The measure is what
-- is left of the text. Assumes nothing.
use Prim.Native.Nat.{◌-◌}
use lib.ListN.{length}
use Rattle.tidy.proofs.RepeatLaws.{Marking}
use Rattle.tidy.proofs.repeats.covered_lines.Given as goal

abbrev pub invariant-loop-i : goal.invariant-loop-i
invariant-loop-i l = Marking l.text l.marks l.links l.all l.i l.n

abbrev pub decreases-loop-i : goal.decreases-loop-i
decreases-loop-i l = length l.text - l.i
