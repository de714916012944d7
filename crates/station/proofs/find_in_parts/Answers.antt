-- `find_in_parts` meets its contract. Assumes nothing.
use borrow.Author.Rules.{rules}
use Rattle.text.proofs.Search.{outright}
use Rattle.station.proofs.DecideLaws.{find_parts}
use Rattle.station.proofs.find_in_parts.Goals as goal

pub returns : goal.returns
returns c = outright (search (find_parts, rules))
