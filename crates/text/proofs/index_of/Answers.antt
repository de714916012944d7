use native.Mathlib.Omega.{arith}
use Rattle.text.proofs.ScanLaws.{index_of_stop, index_of_more, index_of_end}
use borrow.Author.Rules.{rules}
use Rattle.text.proofs.Search.{outright}
use Rattle.text.proofs.index_of.Goals as goal

pub returns-then-x-b-clause-place : goal.returns-then-x-b-clause-place
returns-then-x-b-clause-place c = outright (search (index_of_stop, rules))

pub loop-i-preserved : goal.loop-i-preserved
loop-i-preserved c = search (index_of_more, rules)

pub returns-clause-place : goal.returns-clause-place
returns-clause-place c = let l = c.loop-i in omega (arith, index_of_end _ _ l.i l.invariant (search rules))
