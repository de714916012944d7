-- `address::read::read_groups` meets its contract. The loop's invariant is Row: the groups passed make w, and the rest decides.
-- Assumes nothing.
use Rattle.address.proofs.RowLaws.{Row}
use Rattle.address.proofs.read.read_groups.Given as goal

abbrev pub invariant-loop-count : goal.invariant-loop-count
invariant-loop-count l = Row l.s l.tail l.w l.count l.at
