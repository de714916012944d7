-- `lines::line::join_into` meets its contract. The loop's invariant, Joining: what is written, before the join of what is left to read, is
-- the join of all. The measure is what is left to read. Assumes nothing.
use Prim.Native.Nat.{◌≤◌, ◌-◌}
use lib.ListN.{length}
use Rattle.lines.specs.Line.{join}
use Rattle.lines.proofs.LineLaws.{Joining}
use Rattle.lines.proofs.line.join_into.Given as goal

abbrev pub invariant-loop-i : goal.invariant-loop-i
invariant-loop-i l = (Joining l.s l.initial.out l.out l.i l.n) × (length (join l.s) ≤ length l.initial.out)

abbrev pub decreases-loop-i : goal.decreases-loop-i
decreases-loop-i l = length l.s - l.i
