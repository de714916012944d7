-- `element::reference_of_half` meets its contract: by the first byte. Assumes nothing.
use borrow.Author.Rules.{rules}
use Rattle.text.proofs.Search.{outright}
use Rattle.elements.proofs.ElementLaws.{reference_plain, reference_slash, slash_some}
use Rattle.elements.proofs.element.reference_of_half.Goals as goal

pub slice_bounds-reference_of_table-count : goal.slice_bounds-reference_of_table-count
slice_bounds-reference_of_table-count c = outright (search (slash_some, rules))

pub slice_bounds-reference_of_table-start : goal.slice_bounds-reference_of_table-start
slice_bounds-reference_of_table-start c = outright (search (slash_some, rules))

pub returns-then-has_slash : goal.returns-then-has_slash
returns-then-has_slash c = outright (search (reference_slash, rules))

pub returns-else-has_slash : goal.returns-else-has_slash
returns-else-has_slash c = outright (search (reference_plain, rules))
