use borrow.Author.Rules.{rules}
use Rattle.text.proofs.Search.{outright}
use Rattle.index.proofs.TableLaws.{counting_start, counting_more, counting_end, counting_few, next_less}
use Rattle.index.proofs.table.count_rules.Goals as goal

pub loop-i-init : goal.loop-i-init
loop-i-init c = outright (search (counting_start, rules))

pub loop-i-smaller : goal.loop-i-smaller
loop-i-smaller c = outright (search (next_less, rules))

pub loop-i-preserved : goal.loop-i-preserved
loop-i-preserved c = outright (search (counting_more, rules))

pub returns : goal.returns
returns c = record { count = search (counting_end, rules); few = search (counting_few, rules) }
