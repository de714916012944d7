use borrow.Author.Rules.{rules}
use Rattle.text.proofs.Search.{outright}
use Rattle.address_format.proofs.WriteRuns.{runs_start, runs_few, runs_step, runs_end, runs_within}
use Rattle.address_format.proofs.longest_run.Goals as goal

pub loop-i-init : goal.loop-i-init
loop-i-init c = outright (search (runs_start, rules))

pub longer_zeros-zeros-requires : goal.longer_zeros-zeros-requires
longer_zeros-zeros-requires c = outright (search (runs_few, rules))

pub loop-i-preserved : goal.loop-i-preserved
loop-i-preserved c = outright (search (runs_step, rules))

pub returns : goal.returns
returns c = outright (search (runs_end, runs_within, rules))
