-- `check::check_word` meets its contract. Assumes nothing.
use borrow.Author.Rules.{rules}
use Rattle.text.proofs.Search.{outright}
use Rattle.tables.proofs.CheckLaws.{word_plain, word_named, word_misnamed}
use Rattle.tables.proofs.WordLaws.{slash_full}
use Rattle.tables.proofs.check.check_word.Goals as goal

pub slice_bounds-name-count : goal.slice_bounds-name-count
slice_bounds-name-count c = outright (search (slash_full, rules))

pub slice_bounds-name-start : goal.slice_bounds-name-start
slice_bounds-name-start c = outright (search (slash_full, rules))

pub returns-then-is_table_name : goal.returns-then-is_table_name
returns-then-is_table_name c = outright (search (word_named, rules))

pub returns-then-has_slash : goal.returns-then-has_slash
returns-then-has_slash c = outright (search (word_misnamed, rules))

pub returns : goal.returns
returns c = outright (search (word_plain, rules))
