-- `name_matters` meets its contract. Assumes nothing.
use borrow.Author.Rules.{rules}
use Rattle.text.proofs.Search.{outright}
use Rattle.rules.proofs.DecideLaws.{untabled}
use Rattle.matters.proofs.CallLaws.{texts_unfit, texts_refused, texts_sound, texts_unasked, texts_settled}
use Rattle.matters.proofs.name_matters.Goals as goal

pub returns-then-not-fits : goal.returns-then-not-fits
returns-then-not-fits c = outright (search (texts_unfit, rules))

pub settle_by-requires : goal.settle_by-requires
settle_by-requires c =
    record { tables_value = search (untabled, rules); tables_value_2 = search (texts_sound, rules); unasked = search (texts_unasked, rules) }

pub returns-in_err-answer : goal.returns-in_err-answer
returns-in_err-answer c = outright (search (texts_refused, rules))

pub returns : goal.returns
returns c = outright (search (texts_settled, rules))
