-- `entry::after_count` meets its contract. Assumes nothing.
use borrow.Author.Rules.{rules}
use Rattle.text.proofs.Search.{outright}
use Rattle.tables.proofs.EntryLaws.{after_count_none, after_count_some}
use Rattle.tables.proofs.entry.after_count.Goals as goal

pub returns-then-tables-lt2 : goal.returns-then-tables-lt2
returns-then-tables-lt2 c = outright (search (after_count_none, rules))

pub returns : goal.returns
returns c = outright (search (after_count_some, rules))
