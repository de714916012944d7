-- `salvage::piece::bind_at` meets its contract: a line ends at the next newline. Assumes nothing.
use borrow.Author.Rules.{rules}
use Rattle.text.proofs.Search.{outright}
use Rattle.salvage.proofs.PieceLaws.{bind_found}
use Rattle.salvage.proofs.piece.bind_at.Goals as goal

pub returns : goal.returns
returns c = outright (search (bind_found, rules))
