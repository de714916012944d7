-- `word::parting_length` meets its contract. The invariant is `Passed`: the bytes passed part words.
-- The measure is what is left of the text. Assumes nothing.
use Prim.Native.Nat.{◌-◌}
use lib.ListN.{length}
use Rattle.lines.proofs.RuleLaws.{Passed}
use Rattle.tables.specs.Code.{is_parting}
use Rattle.tables.proofs.word.parting_length.Given as goal

abbrev pub invariant-loop-i : goal.invariant-loop-i
invariant-loop-i l = Passed is_parting l.s l.i

abbrev pub decreases-loop-i : goal.decreases-loop-i
decreases-loop-i l = length l.s - l.i
