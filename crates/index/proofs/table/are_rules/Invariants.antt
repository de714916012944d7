-- `table::are_rules` meets its contract: the loop's invariant is Comparing: what is left is compared with the entries of the lines that are left. Assumes
-- nothing.
use Prim.Native.Nat.{◌-◌}
use lib.ListN.{length}
use Rattle.index.proofs.TableLaws.{Comparing}
use Rattle.index.proofs.table.are_rules.Given as goal

abbrev pub invariant-loop-i : goal.invariant-loop-i
invariant-loop-i l = Comparing l.base l.text l.bytes l.rest l.i l.n

abbrev pub decreases-loop-i : goal.decreases-loop-i
decreases-loop-i l = length l.text - l.i
