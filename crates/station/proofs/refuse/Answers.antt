-- `refuse` meets its contract. Assumes nothing.
use borrow.Author.Rules.{rules}
use Rattle.text.proofs.Search.{outright}
use Rattle.station.proofs.DecideLaws.{refuse_refused, refuse_parts}
use Rattle.station.proofs.refuse.Goals as goal

pub returns-in-Err : goal.returns-in-Err
returns-in-Err c = outright (search (refuse_refused, rules))

pub returns-in-Ok : goal.returns-in-Ok
returns-in-Ok c = outright (search (refuse_parts, rules))
