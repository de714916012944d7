-- `command::has_bad_percent` meets its contract. The loop's invariant is `Checked`: no percent before the place i is bad. The measure is
-- what is left of the text. Assumes nothing.
use Prim.Native.Nat.{◌-◌}
use lib.ListN.{length}
use Rattle.lines.proofs.CommandLaws.{Checked}
use Rattle.lines.proofs.command.has_bad_percent.Given as goal

abbrev pub invariant-loop-i : goal.invariant-loop-i
invariant-loop-i l = Checked l.s l.i

abbrev pub decreases-loop-i : goal.decreases-loop-i
decreases-loop-i l = length l.s - l.i
