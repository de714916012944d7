-- `salvage::piece::put_change` meets its contract: the section, then the number. Assumes nothing.
use borrow.Author.Rules.{rules}
use Rattle.text.proofs.Search.{outright}
use Rattle.salvage.proofs.PieceLaws.{change_none, change_room, change_room_2, change_all}
use Rattle.salvage.proofs.piece.put_change.Goals as goal

pub returns-then-not-bad : goal.returns-then-not-bad
returns-then-not-bad c = let both = change_none _ _ _ _ _ (search rules) in record { next = both.0; written = both.1 }

pub put_count-second-requires : goal.put_count-second-requires
put_count-second-requires c = outright (search (change_room, rules))

pub put_count-requires : goal.put_count-requires
put_count-requires c = outright (search (change_room_2, rules))

pub returns : goal.returns
returns c = let both = change_all _ _ _ _ _ c.if-not-bad.false-raw
    c.requires _
    c.order_of.ensures _ _
    (c.put_count-second.ensures.next, c.put_count-second.ensures.written) _ _ (c.put_count.ensures.next, c.put_count.ensures.written) in
    record { next = both.0; written = both.1 }
