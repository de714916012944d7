-- `rule::separator` meets its contract. The loop's invariant is `Searched`: the bytes passed hold no separator, and no bracket is open.
-- The measure is what is left of the text. Assumes nothing.
use Prim.Native.Nat.{◌-◌}
use lib.ListN.{length}
use Rattle.lines.proofs.RuleLaws.{Searched}
use Rattle.lines.proofs.rule.separator.Given as goal

abbrev pub invariant-loop-i : goal.invariant-loop-i
invariant-loop-i l = Searched l.s l.i

abbrev pub decreases-loop-i : goal.decreases-loop-i
decreases-loop-i l = length l.s - l.i
