-- `lines::line::printable_end` meets its contract. The loop's invariant is the promise about the place reached, i. The measure is what is left
-- of the text. Assumes nothing.
use Prim.Native.Nat.{◌-◌}
use lib.ListN.{length}
use Rattle.lines.specs.Block.{printable, PassedTo}
use Rattle.lines.proofs.line.printable_end.Given as goal

abbrev pub invariant-loop-i : goal.invariant-loop-i
invariant-loop-i l = PassedTo printable l.text l.start l.i

abbrev pub decreases-loop-i : goal.decreases-loop-i
decreases-loop-i l = length l.text - l.i
