-- `tidy::numbers::name_lines` meets its contract: the invariant is Naming: the numbers so far are marked, and named. The measure is what is left of the
-- proposal. Assumes nothing.
use Prim.Native.Nat.{◌-◌}
use lib.ListN.{length}
use Rattle.tidy.proofs.NumberLaws.{Naming}
use Rattle.tidy.proofs.numbers.name_lines.Given as goal

abbrev pub invariant-loop-i : goal.invariant-loop-i
invariant-loop-i l = Naming l.initial.marks l.proposal l.marks l.i

abbrev pub decreases-loop-i : goal.decreases-loop-i
decreases-loop-i l = length l.proposal - l.i
