-- `lines::rule::unmarked_end` meets its contract. The loop's invariant is the promise about the place reached, i. The measure is what is left
-- of the text. Assumes nothing.
use Prim.Native.Nat.{◌-◌}
use lib.ListN.{length}
use Rattle.lines.specs.Block.{unmarked, PassedTo}
use Rattle.lines.proofs.rule.unmarked_end.Given as goal

abbrev pub invariant-loop-i : goal.invariant-loop-i
invariant-loop-i l = PassedTo unmarked l.s 0 l.i

abbrev pub decreases-loop-i : goal.decreases-loop-i
decreases-loop-i l = length l.s - l.i
