-- `salvage::piece::put_piece` meets its contract. Assumes nothing.
use borrow.Author.Rules.{rules}
use Rattle.text.proofs.Search.{outright}
use Rattle.salvage.proofs.PieceLaws.{listing_room, listing_all, text_room, text_all}
use Rattle.salvage.proofs.piece.put_piece.Goals as goal

pub put_change-requires : goal.put_change-requires
put_change-requires c = outright (search (listing_room, rules))

pub returns-then-listing : goal.returns-then-listing
returns-then-listing c = let both = listing_all _ _ _ _ _ _ _ _ _ (search rules) _ _ (search rules) in record { next = both.0; written = both.1 }

pub put_kept-requires : goal.put_kept-requires
put_kept-requires c = outright (search (text_room, rules))

pub returns : goal.returns
returns c = let both = text_all _ _ _ _ _ _ _ _ _ (search rules) _ _ (search rules) in record { next = both.0; written = both.1 }
