-- `carry::put_lines` meets its contract: the two lines, one after the other. Assumes nothing.
use Rattle.carry.proofs.SpanLaws.{lines_room, lines_room_2, lines_all}
use borrow.Author.Rules.{rules}
use Rattle.text.proofs.Search.{outright}
use Rattle.carry.proofs.put_lines.Goals as goal

pub put_line-next-requires : goal.put_line-next-requires
put_line-next-requires c = outright (search (lines_room, rules))

pub put_line-requires : goal.put_line-requires
put_line-requires c = outright (search (lines_room_2, rules))

pub returns : goal.returns
returns c = let both = lines_all _ _ _ c.requires _ _
    (c.put_line-next.ensures.next, c.put_line-next.ensures.written) _ _ (c.put_line.ensures.next, c.put_line.ensures.written) in
    record { next = both.0; written = both.1 }
