-- `search::bytes_between` meets its contract. Assumes nothing.
use borrow.Author.Rules.{rules}
use Rattle.text.proofs.Search.{outright}
use Rattle.index.proofs.EntryLaws.{between_none, between_part}
use Rattle.index.proofs.search.bytes_between.Goals as goal

pub returns-then-range : goal.returns-then-range
returns-then-range c = outright (search (between_none, rules))

pub returns : goal.returns
returns c = outright (search (between_part, rules))
