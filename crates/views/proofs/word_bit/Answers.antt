-- `word_bit` meets its contract. Assumes nothing.
use borrow.Author.Rules.{rules}
use Rattle.text.proofs.Search.{outright}
use Rattle.views.proofs.NoteLaws.{named_full}
use Rattle.views.proofs.RowLaws.{bit_unnamed, bit_named}
use Rattle.views.proofs.word_bit.Goals as goal

pub slice_bounds-named_bit-count : goal.slice_bounds-named_bit-count
slice_bounds-named_bit-count c = outright (search (named_full, rules))

pub slice_bounds-named_bit-start : goal.slice_bounds-named_bit-start
slice_bounds-named_bit-start c = outright (search (named_full, rules))

pub returns-then-names_table : goal.returns-then-names_table
returns-then-names_table c = outright (search (bit_named, rules))

pub returns : goal.returns
returns c = outright (search (bit_unnamed, rules))
