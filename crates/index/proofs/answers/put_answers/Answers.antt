-- `answers::put_answers` meets its contract. Assumes nothing.
use borrow.Author.Rules.{rules}
use Rattle.text.proofs.Search.{outright}
use Rattle.index.proofs.SearchLaws.{index_four, middle_within, ready_parts}
use Rattle.index.proofs.answers.put_answers.Goals as goal

pub four_at-requires : goal.four_at-requires
four_at-requires c = outright (search (index_four, rules))

pub slice_bounds-put_all-end : goal.slice_bounds-put_all-end
slice_bounds-put_all-end c = outright (search (middle_within, rules))

pub slice_bounds-put_all-count-2 : goal.slice_bounds-put_all-count-2
slice_bounds-put_all-count-2 c = outright (search (middle_within, rules))

pub slice_bounds-put_all-start-2 : goal.slice_bounds-put_all-start-2
slice_bounds-put_all-start-2 c = outright (search (middle_within, rules))

pub slice_bounds-put_all-end-2 : goal.slice_bounds-put_all-end-2
slice_bounds-put_all-end-2 c = outright (search (middle_within, rules))

pub put_all-requires : goal.put_all-requires
put_all-requires c = outright (search (ready_parts, rules))
