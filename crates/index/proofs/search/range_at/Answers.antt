-- `search::range_at` meets its contract. Assumes nothing.
use borrow.Author.Rules.{rules}
use Rattle.text.proofs.Search.{outright}
use Rattle.index.proofs.EntryLaws.{range_is}
use Rattle.index.proofs.search.range_at.Goals as goal

pub returns : goal.returns
returns c = outright (search (range_is, rules))
