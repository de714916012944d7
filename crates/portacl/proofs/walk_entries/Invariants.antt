-- `portacl::walk_entries` meets its contract. The loop's invariant is Walking: what the walk finds from the start is what it finds from at on.
-- The measure is what is left of the length, and one for the entry that ends there. Assumes nothing.
use Prim.Native.Nat.{◌+◌, ◌-◌}
use lib.ListN.{length}
use Rattle.portacl.specs.Portacl.{bind}
use Rattle.portacl.proofs.WalkLaws.{Walking}
use Rattle.portacl.proofs.walk_entries.Given as goal

abbrev pub invariant-loop-at : goal.invariant-loop-at
invariant-loop-at l = Walking l.text (bind l.uid l.groups l.protocol l.port) l.granted l.number l.at

abbrev pub decreases-loop-at : goal.decreases-loop-at
decreases-loop-at l = length l.text + 1 - l.at
