-- `salvage::piece::entry_at` meets its contract: an entry ends at the next comma. Assumes nothing.
use borrow.Author.Rules.{rules}
use Rattle.text.proofs.Search.{outright}
use Rattle.salvage.proofs.PieceLaws.{entry_found}
use Rattle.salvage.proofs.piece.entry_at.Goals as goal

pub returns : goal.returns
returns c = outright (search (entry_found, rules))
