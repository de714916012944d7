-- `search::entry_at` meets its contract. Assumes nothing.
use borrow.Author.Rules.{rules}
use Rattle.text.proofs.Search.{outright}
use Rattle.index.proofs.EntryLaws.{entry_at_is}
use Rattle.index.proofs.search.entry_at.Goals as goal

pub returns : goal.returns
returns c = outright (search (entry_at_is, rules))
