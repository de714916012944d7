-- `tell::text_told` meets its contract. The invariant: the text tells what its lines from i on do; n is at most i + 1. The measure is what is left of the text.
-- Assumes nothing.
use Prim.Native.Nat.{◌-◌}
use lib.ListN.{length}
use Rattle.matters.specs.Code.{finder_at}
use Rattle.matters.proofs.TellLaws.{Telling_from}
use Rattle.matters.proofs.tell.text_told.Given as goal

abbrev pub invariant-loop-i : goal.invariant-loop-i
invariant-loop-i l = Telling_from l.verdict l.file (finder_at l.tables l.notes l.names l.request) l.text l.i l.n

abbrev pub decreases-loop-i : goal.decreases-loop-i
decreases-loop-i l = length l.text - l.i
