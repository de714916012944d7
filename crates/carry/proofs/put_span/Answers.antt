use Rattle.carry.proofs.SpanLaws.{putting_start, putting_room, putting_on, putting_end, putting_text}
use borrow.Author.Rules.{rules}
use Rattle.text.proofs.Search.{outright}
use Rattle.carry.proofs.put_span.Goals as goal

pub loop-k-init : goal.loop-k-init
loop-k-init c = outright (search (putting_start, rules))

pub put_port-next-requires : goal.put_port-next-requires
put_port-next-requires c = record { span = search rules; room = search (putting_room, rules) }

pub loop-k-preserved : goal.loop-k-preserved
loop-k-preserved c = outright (search (putting_on, rules))

pub returns : goal.returns
returns c = record { next = search (putting_end, rules); written = search (putting_text, rules) }
