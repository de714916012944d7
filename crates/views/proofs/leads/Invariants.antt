-- `leads` meets its contract. The invariant: what was passed names no such table. The measure is the length of the rest. Assumes nothing.
use Rattle.views.specs.View.{is_deep, text_leads}
use Rattle.tables.specs.Code.{tables_in}
use mathlib.Core.Path.{◌≡◌}
use lib.ListN.{length}
use Rattle.views.proofs.leads.Given as goal

abbrev pub invariant-loop-rest : goal.invariant-loop-rest
invariant-loop-rest l = text_leads (tables_in l.tables) (is_deep l.below) l.text ≡ text_leads (tables_in l.tables) (is_deep l.below) l.rest

abbrev pub decreases-loop-rest : goal.decreases-loop-rest
decreases-loop-rest l = length l.rest
