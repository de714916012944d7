-- `tidy::same::parting_length` meets its contract: the invariant is `Passed`: the bytes passed part elements. The measure is what is left. Assumes nothing.
use Prim.Native.Nat.{◌-◌}
use lib.ListN.{length}
use Rattle.lines.specs.Parts.{is_parting}
use Rattle.lines.proofs.RuleLaws.{Passed}
use Rattle.tidy.proofs.same.parting_length.Given as goal

abbrev pub invariant-loop-i : goal.invariant-loop-i
invariant-loop-i l = Passed is_parting l.s l.i

abbrev pub decreases-loop-i : goal.decreases-loop-i
decreases-loop-i l = length l.s - l.i
