-- `word::word_length` meets its contract. The invariant is `Passed`: the bytes passed belong to the word.
-- The measure is what is left of the text. Assumes nothing.
use Prim.Native.Nat.{◌-◌}
use lib.ListN.{length}
use Rattle.lines.proofs.RuleLaws.{Passed}
use Rattle.tables.specs.Code.{is_word_byte}
use Rattle.tables.proofs.word.word_length.Given as goal

abbrev pub invariant-loop-i : goal.invariant-loop-i
invariant-loop-i l = Passed is_word_byte l.s l.i

abbrev pub decreases-loop-i : goal.decreases-loop-i
decreases-loop-i l = length l.s - l.i
