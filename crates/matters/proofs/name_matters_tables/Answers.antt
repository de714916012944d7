-- `name_matters_tables` meets its contract. Assumes nothing.
use borrow.Author.Rules.{rules}
use Rattle.text.proofs.Search.{outright}
use Rattle.matters.proofs.CallLaws.{tables_unfit, tables_refused, tables_whole, tables_sound, tables_unasked, tables_settled}
use Rattle.matters.proofs.name_matters_tables.Goals as goal

pub returns-then-not-fits : goal.returns-then-not-fits
returns-then-not-fits c = outright (search (tables_unfit, rules))

pub settle_by-requires : goal.settle_by-requires
settle_by-requires c =
    record { tables_value = search (tables_whole, rules); tables_value_2 = search (tables_sound, rules); unasked = search (tables_unasked, rules) }

pub returns-in_err-answer : goal.returns-in_err-answer
returns-in_err-answer c = outright (search (tables_refused, rules))

pub returns : goal.returns
returns c = outright (search (tables_settled, rules))
