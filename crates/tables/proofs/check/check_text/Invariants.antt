-- `check::check_text` meets its contract. The invariant: what was found and what the rest holds give the answer.
-- The measure is the length of the rest. Assumes nothing.
use mathlib.Core.Path.{◌≡◌}
use lib.ListN.{length}
use Rattle.tables.specs.Code.{tables_in, words, words_checked}
use Rattle.tables.proofs.CheckLaws.{text_from}
use Rattle.tables.proofs.check.check_text.Given as goal

abbrev pub invariant-loop-rest : goal.invariant-loop-rest
invariant-loop-rest l = words_checked (tables_in l.tables) (words l.text) ≡ text_from l.found (words_checked (tables_in l.tables) (words l.rest))

abbrev pub decreases-loop-rest : goal.decreases-loop-rest
decreases-loop-rest l = length l.rest
