use Rattle.portacl.proofs.NoteLaws.{note_empty, notes_empty, noting_start, noting_end, noting_end_tcp, noting_end_udp, noting_bad}
use Rattle.portacl.proofs.NoteLaws.{noting_bad_tcp, noting_bad_udp, noting_on}
use borrow.Author.Rules.{rules}
use Rattle.text.proofs.Search.{outright}
use Rattle.portacl.proofs.note_ports.Goals as goal

pub returns-then-text-eq0 : goal.returns-then-text-eq0
returns-then-text-eq0 c =
    record { answer = search (note_empty, rules); over_tcp = search (notes_empty, rules); over_udp = search (notes_empty, rules) }

pub loop-at-init : goal.loop-at-init
loop-at-init c = outright (search (noting_start, rules))

pub returns-in-None : goal.returns-in-None
returns-in-None c =
    record { answer = search (noting_bad, rules); over_tcp = search (noting_bad_tcp, rules); over_udp = search (noting_bad_udp, rules) }

pub loop-at-preserved : goal.loop-at-preserved
loop-at-preserved c = outright (search (noting_on, rules))

pub returns : goal.returns
returns c = record { answer = search (noting_end, rules); over_tcp = search (noting_end_tcp, rules); over_udp = search (noting_end_udp, rules) }
