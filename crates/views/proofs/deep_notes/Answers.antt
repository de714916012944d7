use borrow.Author.Rules.{rules}
use native.Mathlib.Omega.{arith}
use Rattle.text.proofs.Search.{outright}
use Rattle.views.proofs.DeepLaws.{deepening_start, deepening_more, deepening_end}
use Rattle.views.proofs.deep_notes.Goals as goal

pub loop-deep-init : goal.loop-deep-init
loop-deep-init c = let known = c.type_inv.tables in
    deepening_start _ (omega (arith, known 0)) (omega (arith, known 1)) _

pub loop-deep-preserved : goal.loop-deep-preserved
loop-deep-preserved c = outright (search (deepening_more, rules))

pub returns : goal.returns
returns c = outright (search (deepening_end, rules))
