use borrow.Author.Rules.{rules}
use Rattle.text.proofs.Search.{outright}
use Rattle.address.proofs.WordLaws.{padded_start, padded_room, padded_step, padded_end}
use Rattle.address.proofs.read.pad.Goals as goal

pub loop-init : goal.loop-init
loop-init c = outright (search (padded_start, rules))

pub push_group-n-requires : goal.push_group-n-requires
push_group-n-requires c = outright (search (padded_room, rules))

pub loop-preserved : goal.loop-preserved
loop-preserved c = outright (search (padded_step, rules))

pub returns : goal.returns
returns c = outright (search (padded_end, rules))
