-- `lines::line::joined` meets its contract. The loop's invariant, Measuring: what was counted and judged, before the join of what is left
-- to read, is that of all. The measure is what is left to read. Assumes nothing.
use Prim.Native.Nat.{◌-◌}
use lib.ListN.{length}
use Rattle.lines.proofs.LineLaws.{Measuring}
use Rattle.lines.proofs.line.joined.Given as goal

abbrev pub invariant-loop-i : goal.invariant-loop-i
invariant-loop-i l = Measuring l.s l.i l.len l.clean

abbrev pub decreases-loop-i : goal.decreases-loop-i
decreases-loop-i l = length l.s - l.i
