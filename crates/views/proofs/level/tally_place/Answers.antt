-- `level::tally_place` meets its contract. Assumes nothing.
use borrow.Author.Rules.{rules}
use Rattle.text.proofs.Search.{outright}
use Rattle.views.proofs.TallyLaws.{tally_nowhere, tally_there}
use Rattle.views.proofs.level.tally_place.Goals as goal

pub returns-in-None : goal.returns-in-None
returns-in-None c = outright (search (tally_nowhere, rules))

pub returns-in-Some : goal.returns-in-Some
returns-in-Some c = outright (search (tally_there, rules))
