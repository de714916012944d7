-- `byuid::convert::put_bytes` meets its contract. The loop's invariant is Pasted: the first j bytes of l are written. Assumes nothing.
use Rattle.text.proofs.PasteLaws.{Pasted}
use Rattle.byuid.proofs.convert.put_bytes.Given as goal

abbrev pub invariant-loop-j : goal.invariant-loop-j
invariant-loop-j l = Pasted l.initial.out l.l l.out l.at l.j
