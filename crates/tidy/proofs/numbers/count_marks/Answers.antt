use borrow.Author.Rules.{rules}
use Rattle.text.proofs.Search.{outright}
use Rattle.tidy.proofs.NumberLaws.{counting_start, counting_more, counting_end, counting_few}
use Rattle.tidy.proofs.numbers.count_marks.Goals as goal

pub loop-n-init : goal.loop-n-init
loop-n-init c = outright (search (counting_start, rules))

pub loop-n-preserved : goal.loop-n-preserved
loop-n-preserved c = outright (search (counting_more, rules))

pub returns : goal.returns
returns c = record { count = search (counting_end, rules); few = search (counting_few, rules) }
