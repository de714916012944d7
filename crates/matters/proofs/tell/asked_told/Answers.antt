-- `tell::asked_told` meets its contract. Assumes nothing.
use borrow.Author.Rules.{rules}
use Rattle.text.proofs.Search.{outright}
use Rattle.matters.proofs.TellLaws.{asked_fresh, asked_half_lem, asked_same}
use Rattle.matters.proofs.tell.asked_told.Goals as goal

pub returns-then-not-name_agrees : goal.returns-then-not-name_agrees
returns-then-not-name_agrees c = outright (search (asked_fresh, rules))

pub returns-then-not-halves_agree : goal.returns-then-not-halves_agree
returns-then-not-halves_agree c = outright (search (asked_half_lem, rules))

pub returns : goal.returns
returns c = outright (search (asked_same, rules))
