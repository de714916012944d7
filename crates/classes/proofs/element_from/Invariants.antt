-- `element_from` meets its contract. The loop's invariant is `Scanned`: the bytes passed belong to the element, and their classes are in the
-- mask. Assumes nothing.
use Rattle.classes.proofs.ClassLaws.{Scanned}
use Rattle.classes.proofs.element_from.Given as goal

abbrev pub invariant-loop-j : goal.invariant-loop-j
invariant-loop-j l = Scanned l.s l.i l.j l.mask
