-- `salvage::write::put_made` meets its contract: the loop's invariant is Putting: what is written of the pieces so far. Assumes nothing.
use Prim.Native.Nat.{◌-◌}
use Rattle.elements.specs.Code.{view_of}
use Rattle.salvage.proofs.MadeLaws.{Putting}
use Rattle.salvage.proofs.write.put_made.Given as goal

abbrev pub invariant-loop-at : goal.invariant-loop-at
invariant-loop-at l = Putting l.kind (view_of l.tables l.notes) l.listing l.text l.initial.out l.start l.out l.place l.alone l.number l.at

abbrev pub decreases-loop-at : goal.decreases-loop-at
decreases-loop-at l = l.stop - l.at
