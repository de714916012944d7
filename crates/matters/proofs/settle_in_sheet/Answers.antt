-- `settle_in_sheet` meets its contract. Assumes nothing.
use borrow.Author.Rules.{rules}
use Rattle.text.proofs.Search.{outright}
use Rattle.matters.proofs.SheetLaws.{sheet_unframed, sheet_framed}
use Rattle.matters.proofs.settle_in_sheet.Goals as goal

pub settle_in_parts-requires : goal.settle_in_parts-requires
settle_in_parts-requires c = record { request_value = search rules; request_value_2 = search rules; sheet_value = search (sheet_framed, rules) }

pub returns-in_err-parts : goal.returns-in_err-parts
returns-in_err-parts c = outright (search (sheet_unframed, rules))
