-- `entry::entry_text` meets its contract, by the laws of a span. Assumes nothing.
use borrow.Author.Rules.{rules}
use Rattle.text.proofs.Search.{outright}
use Rattle.tables.proofs.EntryLaws.{text_start, text_within, text_place, text_part}
use Rattle.tables.proofs.entry.entry_text.Goals as goal

pub overflow_add-a : goal.overflow_add-a
overflow_add-a c = outright (search (text_place, rules))

pub slice_bounds-result-count : goal.slice_bounds-result-count
slice_bounds-result-count c = outright (search (text_start, rules))

pub slice_bounds-result-start : goal.slice_bounds-result-start
slice_bounds-result-start c = outright (search (text_start, rules))

pub slice_bounds-result-end : goal.slice_bounds-result-end
slice_bounds-result-end c = outright (search (text_within, rules))

pub returns : goal.returns
returns c = outright (search (text_part, rules))
