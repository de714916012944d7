-- `level::word_place` meets its contract. Assumes nothing.
use borrow.Author.Rules.{rules}
use Rattle.text.proofs.Search.{outright}
use Rattle.views.proofs.NoteLaws.{named_full}
use Rattle.views.proofs.TallyLaws.{placed_none, placed_named}
use Rattle.views.proofs.level.word_place.Goals as goal

pub slice_bounds-find_named-count : goal.slice_bounds-find_named-count
slice_bounds-find_named-count c = outright (search (named_full, rules))

pub slice_bounds-find_named-start : goal.slice_bounds-find_named-start
slice_bounds-find_named-start c = outright (search (named_full, rules))

pub returns-then-names_table : goal.returns-then-names_table
returns-then-names_table c = outright (search (placed_named, rules))

pub returns : goal.returns
returns c = outright (search (placed_none, rules))
