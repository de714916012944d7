-- `check::check_each` meets its contract. The invariant is `Checked`: what was found of the tables passed and what is left give the answer.
-- The measure is the count of the others. Assumes nothing.
use Prim.Native.Nat.{◌-◌}
use Rattle.tables.proofs.CheckLaws.{Checked}
use Rattle.tables.proofs.check.check_each.Given as goal

abbrev pub invariant-loop-i : goal.invariant-loop-i
invariant-loop-i l = Checked l.tables l.n l.rest l.i l.misnamed l.unsound

abbrev pub decreases-loop-i : goal.decreases-loop-i
decreases-loop-i l = l.n - l.i
