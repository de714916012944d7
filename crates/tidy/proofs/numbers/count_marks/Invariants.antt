-- `tidy::numbers::count_marks` meets its contract: the invariant is Counting: those so far. The measure is what is left. Assumes nothing.
use Prim.Native.Nat.{◌-◌}
use lib.ListN.{length}
use Rattle.tidy.proofs.NumberLaws.{Counting}
use Rattle.tidy.proofs.numbers.count_marks.Given as goal

abbrev pub invariant-loop-n : goal.invariant-loop-n
invariant-loop-n l = Counting l.marks l.count l.n

abbrev pub decreases-loop-n : goal.decreases-loop-n
decreases-loop-n l = length l.marks - l.n
