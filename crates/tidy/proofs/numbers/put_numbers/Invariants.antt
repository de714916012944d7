-- `tidy::numbers::put_numbers` meets its contract: the invariant is PutNumbers: the numbers so far stand at the front. The measure is what is left of the
-- marks. Assumes nothing.
use Prim.Native.Nat.{◌-◌}
use lib.ListN.{length}
use Rattle.tidy.proofs.NumberLaws.{PutNumbers}
use Rattle.tidy.proofs.numbers.put_numbers.Given as goal

abbrev pub invariant-loop-n : goal.invariant-loop-n
invariant-loop-n l = PutNumbers l.initial.out l.marks l.out l.at l.n

abbrev pub decreases-loop-n : goal.decreases-loop-n
decreases-loop-n l = length l.marks - l.n
