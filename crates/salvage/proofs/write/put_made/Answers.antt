use borrow.Author.Rules.{rules}
use Rattle.text.proofs.Search.{outright}
use Rattle.salvage.proofs.MadeLaws.{putting_start, putting_room, putting_on, putting_end}
use Rattle.salvage.proofs.write.put_made.Goals as goal

pub loop-at-init : goal.loop-at-init
loop-at-init c = outright (search (putting_start, rules))

pub piece_at-found-requires : goal.piece_at-found-requires
piece_at-found-requires c = record { classes = c.classes-class.ensures; text_len_bound = search rules; at_bound = search rules }

pub put_piece-next-requires : goal.put_piece-next-requires
put_piece-next-requires c = outright (search (putting_room, rules))

pub loop-at-preserved : goal.loop-at-preserved
loop-at-preserved c = outright (search (putting_on, rules))

pub returns : goal.returns
returns c = let both = putting_end _ _ _ _ _ _ c.requires.text_in_bounds _ _ _ _ _ c.loop-at.invariant _
    c.stop_of-stop.ensures c.loop-at-test.false in record { next = both.0; written = both.1 }
