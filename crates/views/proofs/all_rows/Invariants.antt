-- `all_rows` meets its contract. The invariant is `Gathered`: the rows hold what the tables passed give. The measure is the count of the
-- others. Assumes nothing.
use Prim.Native.Nat.{◌-◌}
use Rattle.patterns.specs.Host.{endpoint}
use Rattle.views.proofs.RowLaws.{Gathered}
use Rattle.views.proofs.all_rows.Given as goal

abbrev pub invariant-loop-i : goal.invariant-loop-i
invariant-loop-i l = Gathered l.tables (endpoint l.client l.client_name) (endpoint l.server l.server_name) l.n l.rest l.rows l.i

abbrev pub decreases-loop-i : goal.decreases-loop-i
decreases-loop-i l = l.n - l.i
