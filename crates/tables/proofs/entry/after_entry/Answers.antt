-- `entry::after_entry` meets its contract, by the laws of a span. Assumes nothing.
use borrow.Author.Rules.{rules}
use Rattle.text.proofs.Search.{outright}
use Rattle.tables.proofs.EntryLaws.{text_within, rest_part}
use Rattle.tables.proofs.entry.after_entry.Goals as goal

pub slice_bounds-result-count : goal.slice_bounds-result-count
slice_bounds-result-count c = outright (search (text_within, rules))

pub slice_bounds-result-start : goal.slice_bounds-result-start
slice_bounds-result-start c = outright (search (text_within, rules))

pub returns : goal.returns
returns c = outright (search (rest_part, rules))
