-- `table::count_rules` meets its contract: the loop's invariant is Counting. Assumes nothing.
use Prim.Native.Nat.{◌-◌}
use lib.ListN.{length}
use Rattle.index.proofs.TableLaws.{Counting}
use Rattle.index.proofs.table.count_rules.Given as goal

abbrev pub invariant-loop-i : goal.invariant-loop-i
invariant-loop-i l = Counting l.base l.text l.i l.n l.count

abbrev pub decreases-loop-i : goal.decreases-loop-i
decreases-loop-i l = length l.text - l.i
