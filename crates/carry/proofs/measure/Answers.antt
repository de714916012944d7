use Rattle.carry.proofs.SpanLaws.{measuring_start, measuring_on, measuring_end}
use borrow.Author.Rules.{rules}
use Rattle.text.proofs.Search.{outright}
use Rattle.carry.proofs.measure.Goals as goal

pub loop-k-init : goal.loop-k-init
loop-k-init c = outright (search (measuring_start, rules))

pub loop-k-preserved : goal.loop-k-preserved
loop-k-preserved c = outright (search (measuring_on, rules))

pub returns : goal.returns
returns c = outright (search (measuring_end, rules))
