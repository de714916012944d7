-- `start::find_by` meets its contract. Assumes nothing.
use borrow.Author.Rules.{rules}
use Rattle.text.proofs.Search.{outright}
use Rattle.tables.proofs.StartLaws.{start_none, start_counted, start_at_within, start_sought}
use Rattle.tables.proofs.start.find_by.Goals as goal

pub returns-then-left-eq0 : goal.returns-then-left-eq0
returns-then-left-eq0 c = outright (search (start_none, rules))

pub slice_bounds-find_from-count : goal.slice_bounds-find_from-count
slice_bounds-find_from-count c = outright (search (start_at_within, rules))

pub slice_bounds-find_from-start : goal.slice_bounds-find_from-start
slice_bounds-find_from-start c = outright (search (start_at_within, rules))

pub overflow_sub-table_count : goal.overflow_sub-table_count
overflow_sub-table_count c = outright (search (start_counted, rules))

pub find_from-requires : goal.find_from-requires
find_from-requires c = outright (search (start_sought, rules))
