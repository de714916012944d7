-- `text_row` meets its contract. The invariant is `Rowed`: the row holds what the words passed give. The measure is the length of the rest. Assumes nothing.
use lib.ListN.{length}
use Rattle.patterns.specs.Host.{endpoint}
use Rattle.tables.specs.Code.{tables_in}
use Rattle.views.proofs.RowLaws.{Rowed}
use Rattle.views.proofs.text_row.Given as goal

abbrev pub invariant-loop-rest : goal.invariant-loop-rest
invariant-loop-rest l = Rowed (tables_in l.tables) (endpoint l.client l.client_name) (endpoint l.server l.server_name) l.text l.rest l.row

abbrev pub decreases-loop-rest : goal.decreases-loop-rest
decreases-loop-rest l = length l.rest
