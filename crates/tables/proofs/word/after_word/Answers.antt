-- `word::after_word` meets its contract, by the laws of a span. Assumes nothing.
use borrow.Author.Rules.{rules}
use Rattle.text.proofs.Search.{outright}
use Rattle.tables.proofs.WordLaws.{word_end, after_part}
use Rattle.tables.proofs.word.after_word.Goals as goal

pub slice_bounds-result-count : goal.slice_bounds-result-count
slice_bounds-result-count c = outright (search (word_end, rules))

pub slice_bounds-result-start : goal.slice_bounds-result-start
slice_bounds-result-start c = outright (search (word_end, rules))

pub returns : goal.returns
returns c = outright (search (after_part, rules))
