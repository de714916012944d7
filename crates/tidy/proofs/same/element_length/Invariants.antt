-- `tidy::same::element_length` meets its contract: the invariant is `Passed`: the bytes passed belong to an element. The measure is what is left. Assumes
-- nothing.
use Prim.Native.Nat.{◌-◌}
use lib.ListN.{length}
use Rattle.lines.specs.Parts.{is_element_byte}
use Rattle.lines.proofs.RuleLaws.{Passed}
use Rattle.tidy.proofs.same.element_length.Given as goal

abbrev pub invariant-loop-i : goal.invariant-loop-i
invariant-loop-i l = Passed is_element_byte l.s l.i

abbrev pub decreases-loop-i : goal.decreases-loop-i
decreases-loop-i l = length l.s - l.i
