-- `word::names_table` meets its contract. Assumes nothing.
use borrow.Author.Rules.{rules}
use Rattle.text.proofs.Search.{outright}
use Rattle.tables.proofs.WordLaws.{slash_full, table_name_is, table_name_none}
use Rattle.tables.proofs.word.names_table.Goals as goal

pub slice_bounds-is_table_name-count : goal.slice_bounds-is_table_name-count
slice_bounds-is_table_name-count c = outright (search (slash_full, rules))

pub slice_bounds-is_table_name-start : goal.slice_bounds-is_table_name-start
slice_bounds-is_table_name-start c = outright (search (slash_full, rules))

pub returns-then-has_slash : goal.returns-then-has_slash
returns-then-has_slash c = outright (search (table_name_is, rules))

pub returns-else-has_slash : goal.returns-else-has_slash
returns-else-has_slash c = outright (search (table_name_none, rules))
