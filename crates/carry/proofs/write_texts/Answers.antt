-- `carry::write_texts` meets its contract: both are measured before the first byte is written. Assumes nothing.
use Rattle.carry.proofs.CarryLaws.{no_plain_room, no_marked_room, both_written}
use Rattle.carry.proofs.write_texts.Goals as goal

pub returns-then-plain-measure : goal.returns-then-plain-measure
returns-then-plain-measure c = let both = no_plain_room _ _ _ _ c.measure.ensures c.if-plain-measure.true _ c.placeless.ensures in
    record { answer = both.0; lower = both.1.0; upper = both.1.1 }

pub returns-then-marked-measure : goal.returns-then-marked-measure
returns-then-marked-measure c = let both = no_marked_room _ _ _ _ c.measure.ensures c.if-plain-measure.false _
    c.measure-2.ensures c.if-marked-measure.true _ c.placeless-then-marked-measure.ensures in
    record { answer = both.0; lower = both.1.0; upper = both.1.1 }

pub returns : goal.returns
returns c = let both = both_written _ _ _ _ c.measure.ensures
    c.if-plain-measure.false _
    c.measure-2.ensures
    c.if-marked-measure.false _ _ _ _
    (c.put_span-lower.ensures.next, c.put_span-lower.ensures.written) (c.put_span-upper.ensures.next, c.put_span-upper.ensures.written) in
    record { answer = both.0; lower = both.1.0; upper = both.1.1 }
