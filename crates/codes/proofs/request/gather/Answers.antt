-- What is copied is within its sizes, so it fits the block; what is not is refused. Assumes nothing.
use borrow.Author.Rules.{rules}
use Rattle.text.proofs.Search.{outright}
use Rattle.codes.proofs.RequestLaws.{gathered_room, gathered_within, gathered_fits, gathered_unfit}
use Rattle.codes.proofs.request.gather.Goals as goal

pub put_names-requires : goal.put_names-requires
put_names-requires c = outright (search (gathered_within, rules))

pub places-requires : goal.places-requires
places-requires c = outright (search (gathered_room, rules))

pub returns-then-states-well_formed : goal.returns-then-states-well_formed
returns-then-states-well_formed c = outright (search (gathered_fits, rules))

pub returns : goal.returns
returns c = outright (search (gathered_unfit, rules))
