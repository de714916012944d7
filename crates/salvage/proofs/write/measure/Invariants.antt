-- `salvage::write::measure` meets its contract: the loop's invariant is Measuring: the bytes of the pieces so far. Assumes nothing.
use Prim.Native.Nat.{◌-◌}
use Rattle.elements.specs.Code.{view_of}
use Rattle.salvage.proofs.MadeLaws.{Measuring}
use Rattle.salvage.proofs.write.measure.Given as goal

abbrev pub invariant-loop-at : goal.invariant-loop-at
invariant-loop-at l = Measuring l.kind (view_of l.tables l.notes) l.listing l.text l.bytes l.alone l.number l.at

abbrev pub decreases-loop-at : goal.decreases-loop-at
decreases-loop-at l = l.stop - l.at
