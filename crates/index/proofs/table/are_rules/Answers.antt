use borrow.Author.Rules.{rules}
use Rattle.text.proofs.Search.{outright}
use Rattle.index.proofs.TableLaws.{comparing_start, comparing_short, comparing_differs, comparing_more, comparing_end, part_length, next_less}
use Rattle.index.proofs.table.are_rules.Goals as goal

pub loop-i-init : goal.loop-i-init
loop-i-init c = outright (search (comparing_start, rules))

pub returns-then-rest-m : goal.returns-then-rest-m
returns-then-rest-m c = outright (search (comparing_short, rules))

pub slice_bounds-is_line-end : goal.slice_bounds-is_line-end
slice_bounds-is_line-end c = outright (search (part_length, rules))

pub returns-then-not-is_line : goal.returns-then-not-is_line
returns-then-not-is_line c = outright (search (comparing_differs, rules))

pub loop-i-smaller : goal.loop-i-smaller
loop-i-smaller c = outright (search (next_less, rules))

pub loop-i-preserved : goal.loop-i-preserved
loop-i-preserved c = outright (search (comparing_more, rules))

pub returns : goal.returns
returns c = outright (search (comparing_end, rules))
