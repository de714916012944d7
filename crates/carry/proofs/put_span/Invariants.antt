-- `carry::put_span` meets its contract: the loop's invariant is Putting: the lines of the ports so far stand at the front. Assumes nothing.
use Rattle.carry.specs.Code.{in_both}
use Rattle.carry.proofs.SpanLaws.{Putting}
use Rattle.carry.proofs.put_span.Given as goal

abbrev pub invariant-loop-k : goal.invariant-loop-k
invariant-loop-k l = Putting (in_both l.tcp l.udp) l.from l.count l.initial.out l.out l.at l.k
