-- `carry::measure` meets its contract: the loop's invariant is Measuring: the bytes of the ports so far. Assumes nothing.
use Rattle.carry.specs.Code.{in_both}
use Rattle.carry.proofs.SpanLaws.{Measuring}
use Rattle.carry.proofs.measure.Given as goal

abbrev pub invariant-loop-k : goal.invariant-loop-k
invariant-loop-k l = Measuring (in_both l.tcp l.udp) l.from l.count l.bytes l.k
