-- `decide_by_parts` meets its contract: the command stands within its file, and the file within the sheet. Assumes nothing.
use borrow.Author.Rules.{rules}
use Rattle.text.proofs.Search.{outright}
use Rattle.station.proofs.DecideLaws.{command_fits, parts_doubtful, parts_answered}
use Rattle.station.proofs.decide_by_parts.Goals as goal

pub in_sheet-requires : goal.in_sheet-requires
in_sheet-requires c = outright (search (command_fits, rules))

pub returns-in-None : goal.returns-in-None
returns-in-None c = outright (search (parts_doubtful, rules))

pub returns-in-Some : goal.returns-in-Some
returns-in-Some c = outright (search (parts_answered, rules))
