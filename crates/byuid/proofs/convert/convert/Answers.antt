-- `byuid::convert::convert` meets its contract: the limit, then room, then the lines. Assumes nothing.
use Rattle.byuid.proofs.ConvertLaws.{convert_over, convert_no_room, convert_count}
use Rattle.byuid.proofs.convert.convert.Goals as goal

pub returns-then-over : goal.returns-then-over
returns-then-over c = let both = convert_over _ _ _ c.over.ensures c.if-over.true _ c.refusal.ensures in record { answer = both.0; holds = both.1 }

pub returns-then-out-text : goal.returns-then-out-text
returns-then-out-text c = let both = convert_no_room _ _ _ c.over.ensures c.if-over.false c.if-out-text.true _ c.placeless.ensures in
    record { answer = both.0; holds = both.1 }

pub returns : goal.returns
returns c = let both = convert_count _ _ _ c.over.ensures c.if-over.false c.if-out-text.false _ c.put_lines.ensures in
    record { answer = both.0; holds = both.1 }
