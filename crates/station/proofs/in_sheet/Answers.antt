-- `station::in_sheet` meets its contract.
-- Assumes nothing.
use borrow.Author.Rules.{rules}
use Rattle.text.proofs.Search.{outright}
use Rattle.station.proofs.DecideLaws.{placed_in_sheet}
use Rattle.station.proofs.in_sheet.Goals as goal

pub returns : goal.returns
returns c = outright (search (placed_in_sheet, rules))
