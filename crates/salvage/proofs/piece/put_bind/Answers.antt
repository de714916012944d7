-- `salvage::piece::put_bind` meets its contract: the line in its new form, then its newline. Assumes nothing.
use borrow.Author.Rules.{rules}
use Rattle.text.proofs.Search.{outright}
use Rattle.salvage.proofs.PieceLaws.{bind_room, bind_room_2, bind_all, bind_last}
use Rattle.salvage.proofs.piece.put_bind.Goals as goal

pub put_line-requires : goal.put_line-requires
put_line-requires c = outright (search (bind_room, rules))

pub put-requires : goal.put-requires
put-requires c = outright (search (bind_room_2, rules))

pub returns-then-ended : goal.returns-then-ended
returns-then-ended c = let both = bind_all _ _ _ _ c.requires _
    c.put_line.ensures c.if-ended.true _ _
    (c.put.ensures.next, c.put.ensures.written) in record { next = both.0; written = both.1 }

pub returns : goal.returns
returns c = let both = bind_last _ _ _ _ c.requires _ c.put_line.ensures c.if-ended.false in record { next = both.0; written = both.1 }
