-- `parting_length` meets its contract. The loop's invariant is `Passed`: the bytes passed part elements.
-- Assumes nothing.
use Rattle.lines.specs.Parts.{is_parting}
use Rattle.lines.proofs.RuleLaws.{Passed}
use Rattle.classes.proofs.parting_length.Given as goal

abbrev pub invariant-loop-i : goal.invariant-loop-i
invariant-loop-i l = Passed is_parting l.s l.i
