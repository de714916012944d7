-- src/lib.rt:24:9
-- src/lib.rt:27:9
-- src/lib.rt:29:6
-- src/lib.rt:29:25
-- src/lib.rt:20:1
use Rattle.carry.proofs.SpanLaws.{past_tcp, past_udp, both_here}
use borrow.Author.Rules.{rules}
use Rattle.text.proofs.Search.{outright}
use Rattle.carry.proofs.is_in_both.Goals as goal

pub returns-then-tcp-port : goal.returns-then-tcp-port
returns-then-tcp-port c = outright (search (past_tcp, rules))

pub returns-then-udp-port : goal.returns-then-udp-port
returns-then-udp-port c = outright (search (past_udp, rules))

pub returns : goal.returns
returns c = outright (search (both_here, rules))
