-- `tell::asked_half` meets its contract. Assumes nothing.
use borrow.Author.Rules.{rules}
use mathlib.Core.Path.{sym}
use lib.Seq.{length-take-le}
use Rattle.text.proofs.Search.{outright}
use Rattle.matters.proofs.HalfLaws.{asked_quiet, asked_none, asked_some}
use Rattle.matters.proofs.tell.asked_half.Goals as goal

pub returns-then-not-asks : goal.returns-then-not-asks
returns-then-not-asks c = outright (search (asked_quiet, rules))

pub returns-then-at-e : goal.returns-then-at-e
returns-then-at-e c = outright (search (asked_none, rules))

pub slice_bounds-result-end-2 : goal.slice_bounds-result-end-2
slice_bounds-result-end-2 c = sym (length-take-le _ _ c.sign_place-at.ensures.within)

pub returns : goal.returns
returns c = outright (search (asked_some, rules))
