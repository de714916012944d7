-- `names::find_noted` meets its contract. The invariant is `Seeking`: no place passed is that of the name, and the next has its number.
-- The measure is the count of the others. Assumes nothing.
use Prim.Native.Nat.{◌-◌}
use Rattle.views.proofs.NamesLaws.{Seeking}
use Rattle.views.proofs.names.find_noted.Given as goal

abbrev pub invariant-loop-i : goal.invariant-loop-i
invariant-loop-i l = Seeking l.tables l.notes l.name l.sought l.i

abbrev pub decreases-loop-i : goal.decreases-loop-i
decreases-loop-i l = 64 - l.i
