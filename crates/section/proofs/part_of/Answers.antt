-- `part_of` meets its contract: the part is taken as far as the bytes go.
-- Assumes nothing.
use borrow.Author.Rules.{rules}
use Rattle.text.proofs.Search.{outright}
use Rattle.section.proofs.PartLaws.{part_length}
use Rattle.section.proofs.PartLaws.{part_front, part_none, part_rest}
use Rattle.section.proofs.part_of.Goals as goal

pub returns-then-s-at : goal.returns-then-s-at
returns-then-s-at c = outright (search (part_none, rules))

pub returns-then-rest-n : goal.returns-then-rest-n
returns-then-rest-n c = outright (search (part_rest, rules))

pub slice_bounds-result-end-2 : goal.slice_bounds-result-end-2
slice_bounds-result-end-2 c = outright (search (part_length, rules))

pub returns : goal.returns
returns c = outright (search (part_front, rules))
