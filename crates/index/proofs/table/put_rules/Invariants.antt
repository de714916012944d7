-- `table::put_rules` meets its contract: the loop's invariant is Writing: the entries of the lines so far are written. Assumes nothing.
use Prim.Native.Nat.{◌-◌}
use lib.ListN.{length}
use Rattle.index.proofs.TableLaws.{Writing}
use Rattle.index.proofs.table.put_rules.Given as goal

abbrev pub invariant-loop-i : goal.invariant-loop-i
invariant-loop-i l = Writing l.base l.text l.initial.out l.at l.out l.next l.i l.n

abbrev pub decreases-loop-i : goal.decreases-loop-i
decreases-loop-i l = length l.text - l.i
