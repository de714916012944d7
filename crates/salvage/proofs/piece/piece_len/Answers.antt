-- `salvage::piece::piece_len` meets its contract. Assumes nothing.
use borrow.Author.Rules.{rules}
use Rattle.salvage.proofs.PieceLaws.{long_text, long_listed, long_unlisted}
use Rattle.salvage.proofs.piece.piece_len.Goals as goal

pub returns-then-not-listing : goal.returns-then-not-listing
returns-then-not-listing c = let both = long_text _ _ _ _ _ _ _ (search rules) _ (search rules) in record { count = both.0; few = both.1 }

pub returns-then-bad : goal.returns-then-bad
returns-then-bad c = let both = long_listed _ _ _ _ _ _ _ (search rules) (search rules) in record { count = both.0; few = both.1 }

pub returns-else-bad : goal.returns-else-bad
returns-else-bad c = let both = long_unlisted _ _ _ _ _ _ _ (search rules) (search rules) in record { count = both.0; few = both.1 }
