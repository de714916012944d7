-- `byuid::walk_lines` meets its contract. The loop's invariant is Walking: what the walk finds from the start is what it finds from at on.
-- The measure is what is left of the text, and one more for a last line of no bytes. Assumes nothing.
use Prim.Native.Nat.{◌+◌, ◌-◌}
use lib.ListN.{length}
use Rattle.byuid.proofs.TextLaws.{Walking}
use Rattle.byuid.proofs.walk_lines.Given as goal

abbrev pub invariant-loop-at : goal.invariant-loop-at
invariant-loop-at l = Walking l.addr l.port l.text l.granted l.number l.at

abbrev pub decreases-loop-at : goal.decreases-loop-at
decreases-loop-at l = length l.text + 1 - l.at
