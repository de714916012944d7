-- `lines::line::is_comment` meets its contract. The loop's invariant: the join of what is left is that of all. The measure is what is left
-- to read. Assumes nothing.
use Prim.Native.Nat.{◌≤◌, ◌-◌}
use mathlib.Core.Path.{◌≡◌}
use lib.ListN.{length, drop}
use Rattle.lines.specs.Line.{join}
use Rattle.lines.proofs.line.is_comment.Given as goal

abbrev pub invariant-loop-i : goal.invariant-loop-i
invariant-loop-i l = (l.i ≤ length l.raw) × (join l.raw ≡ join (drop l.i l.raw))

abbrev pub decreases-loop-i : goal.decreases-loop-i
decreases-loop-i l = length l.raw - l.i
