-- `element::table_seen` meets its contract. Assumes nothing.
use borrow.Author.Rules.{rules}
use Rattle.text.proofs.Search.{outright}
use Rattle.elements.proofs.ElementLaws.{slash_some}
use Rattle.elements.proofs.SeenLaws.{table_is}
use Rattle.elements.proofs.element.table_seen.Goals as goal

pub slice_bounds-is_table_name-count : goal.slice_bounds-is_table_name-count
slice_bounds-is_table_name-count c = outright (search (slash_some, rules))

pub slice_bounds-is_table_name-start : goal.slice_bounds-is_table_name-start
slice_bounds-is_table_name-start c = outright (search (slash_some, rules))

pub returns : goal.returns
returns c = outright (search (table_is, rules))
