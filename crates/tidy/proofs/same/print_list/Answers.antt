use borrow.Author.Rules.{rules}
use Rattle.text.proofs.Search.{outright}
use Rattle.tidy.proofs.ListLaws.{printing_start, printing_more, printing_end, printing_small}
use Rattle.tidy.proofs.same.print_list.Goals as goal

pub loop-i-init : goal.loop-i-init
loop-i-init c = outright (search (printing_start, rules))

pub loop-i-preserved : goal.loop-i-preserved
loop-i-preserved c = outright (search (printing_more, rules))

pub returns : goal.returns
returns c = record { print = search (printing_end, rules); small = search (printing_small, rules) }
