-- `carry::carry` meets its contract: what is noted is what the list has. Assumes nothing.
use Rattle.carry.proofs.CarryLaws.{carry_over, carry_bad, carry_root, carry_written}
use borrow.Author.Rules.{rules}
use Rattle.carry.proofs.carry.Goals as goal

pub returns-then-over : goal.returns-then-over
returns-then-over c = let both = carry_over _ _ _ _ _ c.over.ensures c.if-over.true _ c.refusal.ensures in
    record { answer = both.0; lower = both.1.0; upper = both.1.1 }

pub returns-then-uid-eq0 : goal.returns-then-uid-eq0
returns-then-uid-eq0 c = let both = carry_root _ _ _ _ _ c.over.ensures
    c.if-over.false _
    c.note_ports.ensures.answer (search rules) c.if-uid-eq0.true _ c.placeless.ensures in
    record { answer = both.0; lower = both.1.0; upper = both.1.1 }

pub returns-in_err-note_ports : goal.returns-in_err-note_ports
returns-in_err-note_ports c = let both = carry_bad _ c.args.uid c.args.plain.now c.args.marked.now _ c.over.ensures
    c.if-over.false _ c.note_ports.ensures.answer _ c.in_err-note_ports.was in
    record { answer = search (both.0, rules); lower = both.1.0; upper = both.1.1 }

pub returns : goal.returns
returns c = let both = carry_written _ _
    c.args.plain.now
    c.args.marked.now
    _
    c.over.ensures
    c.if-over.false
    _ c.note_ports.ensures.answer
    (search rules) c.if-uid-eq0.false _ _
    c.note_ports.ensures.over_tcp
    c.note_ports.ensures.over_udp _
    _ _ (c.write_texts.ensures.answer, (c.write_texts.ensures.lower, c.write_texts.ensures.upper)) in
    record { answer = both.0; lower = both.1.0; upper = both.1.1 }
