-- `write::byte_at` meets its contract, by the test. Assumes nothing.
use borrow.Author.Rules.{rules}
use Rattle.text.proofs.Search.{outright}
use Rattle.expansion.proofs.PieceLaws.{get_d_past}
use Rattle.expansion.proofs.write.byte_at.Goals as goal

pub returns : goal.returns
returns c = outright (search (get_d_past, rules))
