-- `carry::put_line` meets its contract: its three parts, one after the other. Assumes nothing.
use Rattle.carry.proofs.SpanLaws.{line_room, line_room_2, line_room_3, line_all}
use borrow.Author.Rules.{rules}
use Rattle.text.proofs.Search.{outright}
use Rattle.carry.proofs.put_line.Goals as goal

pub put-number-requires : goal.put-number-requires
put-number-requires c = outright (search (line_room, rules))

pub put_decimal-end-requires : goal.put_decimal-end-requires
put_decimal-end-requires c = outright (search (line_room_2, rules))

pub put-requires : goal.put-requires
put-requires c = line_room_3 _ _ _ _ c.requires _ _
    (c.put-number.ensures.next, c.put-number.ensures.written) _ _ (c.put_decimal-end.ensures.next, c.put_decimal-end.ensures.written)

pub returns : goal.returns
returns c = let both = line_all _ _ _ _ c.requires _ _
    (c.put-number.ensures.next, c.put-number.ensures.written) _ _
    (c.put_decimal-end.ensures.next, c.put_decimal-end.ensures.written) _ _ (c.put.ensures.next, c.put.ensures.written) in
    record { next = both.0; written = both.1 }
