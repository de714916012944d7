-- `level::text_tried` meets its contract. The invariant is `Both`: what was tried for either host, and what the words left make. The measure is
-- the length of the rest. Assumes nothing.
use lib.ListN.{length}
use Rattle.tables.specs.Code.{tables_in}
use Rattle.views.proofs.TallyLaws.{Both}
use Rattle.views.proofs.level.text_tried.Given as goal

abbrev pub invariant-loop-rest : goal.invariant-loop-rest
invariant-loop-rest l = Both (tables_in l.tables) l.notes l.client l.server l.text l.c l.s l.rest

abbrev pub decreases-loop-rest : goal.decreases-loop-rest
decreases-loop-rest l = length l.rest
