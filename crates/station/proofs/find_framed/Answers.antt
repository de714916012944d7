-- `find_framed` meets its contract. Assumes nothing.
use borrow.Author.Rules.{rules}
use Rattle.text.proofs.Search.{outright}
use Rattle.station.proofs.DecideLaws.{find_entry, find_retired, find_entries}
use Rattle.station.proofs.find_framed.Goals as goal

pub returns-in-Err : goal.returns-in-Err
returns-in-Err c = outright (search (find_entry, rules))

pub returns-in-Err-check : goal.returns-in-Err-check
returns-in-Err-check c = outright (search (find_retired, rules))

pub returns-in-Ok-check : goal.returns-in-Ok-check
returns-in-Ok-check c = outright (search (find_entries, rules))
