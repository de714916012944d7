-- `name_matters_sheet` meets its contract. Assumes nothing.
use borrow.Author.Rules.{rules}
use Rattle.text.proofs.Search.{outright}
use Rattle.matters.proofs.SheetLaws.{sheet_unfit, sheet_fits, sheet_refused, sheet_answered}
use Rattle.matters.proofs.name_matters_sheet.Goals as goal

pub returns-then-not-fits : goal.returns-then-not-fits
returns-then-not-fits c = outright (search (sheet_unfit, rules))

pub settle_in_sheet-requires : goal.settle_in_sheet-requires
settle_in_sheet-requires c = record { request_value = search (sheet_fits, rules); request_value_2 = search (sheet_answered, rules) }

pub returns-in_err-answer : goal.returns-in_err-answer
returns-in_err-answer c = outright (search (sheet_refused, rules))
