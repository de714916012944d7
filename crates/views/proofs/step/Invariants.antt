-- `step` meets its contract. The invariant is `Stepped`: the tables passed are marked. The measure is the count of the others. Assumes nothing.
use Prim.Native.Nat.{◌-◌}
use Rattle.views.proofs.BitLaws.{Stepped}
use Rattle.views.proofs.step.Given as goal

abbrev pub invariant-loop-i : goal.invariant-loop-i
invariant-loop-i l = Stepped l.names l.own l.below l.made l.i

abbrev pub decreases-loop-i : goal.decreases-loop-i
decreases-loop-i l = 64 - l.i
