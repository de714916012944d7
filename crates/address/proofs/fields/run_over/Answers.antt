use borrow.Author.Rules.{rules}
use Rattle.text.proofs.Search.{outright}
use Rattle.address.proofs.FieldLaws.{running_start, running_end, running_fails, running_stops, running_goes}
use Rattle.address.proofs.fields.run_over.Goals as goal

pub loop-j-init : goal.loop-j-init
loop-j-init c = outright (search (running_start, rules))

pub returns-in-Nothing : goal.returns-in-Nothing
returns-in-Nothing c = outright (search (running_fails, rules))

pub returns-in-Stop : goal.returns-in-Stop
returns-in-Stop c = outright (search (running_stops, rules))

pub loop-j-preserved : goal.loop-j-preserved
loop-j-preserved c = outright (search (running_goes, rules))

pub returns : goal.returns
returns c = outright (search (running_end, rules))
