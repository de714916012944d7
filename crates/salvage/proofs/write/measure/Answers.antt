use borrow.Author.Rules.{rules}
use Rattle.text.proofs.Search.{outright}
use Rattle.salvage.proofs.MadeLaws.{measuring_start, measuring_on, measuring_fits, measuring_end, measuring_few}
use Rattle.salvage.proofs.write.measure.Goals as goal

pub loop-at-init : goal.loop-at-init
loop-at-init c = outright (search (measuring_start, rules))

pub overflow_add-bytes : goal.overflow_add-bytes
overflow_add-bytes c = outright (search (measuring_fits, rules))

pub loop-at-preserved : goal.loop-at-preserved
loop-at-preserved c = outright (search (measuring_on, rules))

pub returns : goal.returns
returns c = record { count = search (measuring_end, rules); few = search (measuring_few, rules) }
