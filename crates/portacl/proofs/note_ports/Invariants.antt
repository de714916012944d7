-- `portacl::note_ports` meets its contract. The loop's invariant is Noting: what is found and noted from the start is what is found and noted from at on.
-- Assumes nothing.
use Prim.Native.Nat.{◌+◌, ◌-◌}
use lib.ListN.{length}
use Rattle.portacl.proofs.NoteLaws.{Noting}
use Rattle.portacl.proofs.note_ports.Given as goal

abbrev pub invariant-loop-at : goal.invariant-loop-at
invariant-loop-at l = Noting l.text l.uid l.initial.tcp l.initial.udp l.tcp l.udp l.number l.at

abbrev pub decreases-loop-at : goal.decreases-loop-at
decreases-loop-at l = length l.text + 1 - l.at
