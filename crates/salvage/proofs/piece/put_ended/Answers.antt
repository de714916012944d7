-- `salvage::piece::put_ended` meets its contract: the line, then the newline. Assumes nothing.
use borrow.Author.Rules.{rules}
use Rattle.text.proofs.Search.{outright}
use Rattle.salvage.proofs.PieceLaws.{ended_room, ended_room_2, ended_all}
use Rattle.salvage.proofs.piece.put_ended.Goals as goal

pub put-end-requires : goal.put-end-requires
put-end-requires c = outright (search (ended_room, rules))

pub put-requires : goal.put-requires
put-requires c = outright (search (ended_room_2, rules))

pub returns : goal.returns
returns c = let both = ended_all _ _ _ c.requires _ _
    (c.put-end.ensures.next, c.put-end.ensures.written) _ _ (c.put.ensures.next, c.put.ensures.written) in record { next = both.0; written = both.1 }
