-- `entry::entry_name` meets its contract, by the laws of a span. Assumes nothing.
use borrow.Author.Rules.{rules}
use Rattle.text.proofs.Search.{outright}
use Rattle.tables.proofs.EntryLaws.{name_start, name_within, name_part}
use Rattle.tables.proofs.entry.entry_name.Goals as goal

pub slice_bounds-result-count : goal.slice_bounds-result-count
slice_bounds-result-count c = outright (search (name_start, rules))

pub slice_bounds-result-start : goal.slice_bounds-result-start
slice_bounds-result-start c = outright (search (name_start, rules))

pub slice_bounds-result-end : goal.slice_bounds-result-end
slice_bounds-result-end c = outright (search (name_within, rules))

pub returns : goal.returns
returns c = outright (search (name_part, rules))
