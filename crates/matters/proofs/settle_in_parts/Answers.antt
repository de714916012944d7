-- `settle_in_parts` meets its contract. Assumes nothing.
use borrow.Author.Rules.{rules}
use Rattle.text.proofs.Search.{outright}
use Rattle.matters.proofs.SheetLaws.{parts_whole, parts_sound, parts_unasked, parts_settled}
use Rattle.matters.proofs.settle_in_parts.Goals as goal

pub settle_by-requires : goal.settle_by-requires
settle_by-requires c =
    record { tables_value = search (parts_whole, rules); tables_value_2 = search (parts_sound, rules); unasked = search (parts_unasked, rules) }

pub returns : goal.returns
returns c = outright (search (parts_settled, rules))
