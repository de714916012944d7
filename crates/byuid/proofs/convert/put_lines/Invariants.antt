-- `byuid::convert::put_lines` meets its contract. The loop's invariant is Converting: the lines before at are written, those from it on are left.
-- The measure is what is left of the text. Assumes nothing.
use Prim.Native.Nat.{◌-◌}
use lib.ListN.{length}
use Rattle.byuid.proofs.ConvertLaws.{Converting}
use Rattle.byuid.proofs.convert.put_lines.Given as goal

abbrev pub invariant-loop-at : goal.invariant-loop-at
invariant-loop-at l = Converting l.initial.out l.text l.out l.at

abbrev pub decreases-loop-at : goal.decreases-loop-at
decreases-loop-at l = length l.text - l.at
