-- The texts are those of the sheet, but for the list. Assumes nothing.
use borrow.Author.Rules.{rules}
use Rattle.text.proofs.Search.{outright}
use Rattle.station.proofs.ListLaws.{others_checked}
use Rattle.station.proofs.check_others.Goals as goal

pub returns : goal.returns
returns c = outright (search (others_checked, rules))
