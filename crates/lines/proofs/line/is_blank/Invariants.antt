-- `lines::line::is_blank` meets its contract. The loop's invariant: the join of what is left is blank exactly where that of all is. The
-- measure is what is left to read. Assumes nothing.
use Prim.Native.Nat.{◌≤◌, ◌-◌}
use mathlib.Core.Path.{◌≡◌}
use lib.ListN.{length, drop}
use Rattle.text.specs.Basics.{all}
use Rattle.text.specs.Text.{among}
use Rattle.lines.specs.Line.{join}
use Rattle.lines.proofs.line.is_blank.Given as goal

abbrev pub invariant-loop-i : goal.invariant-loop-i
invariant-loop-i l = (l.i ≤ length l.raw) × (all (among " \t") (join l.raw) ≡ all (among " \t") (join (drop l.i l.raw)))

abbrev pub decreases-loop-i : goal.decreases-loop-i
decreases-loop-i l = length l.raw - l.i
