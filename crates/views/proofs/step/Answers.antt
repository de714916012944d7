use borrow.Author.Rules.{rules}
use mathlib.Core.Path.{refl}
use Rattle.text.proofs.Search.{outright}
use Rattle.views.proofs.BitLaws.{stepped_start, stepped_more, stepped_end}
use Rattle.views.proofs.step.Goals as goal

pub loop-i-init : goal.loop-i-init
loop-i-init c = outright (search (stepped_start, rules))

pub loop-i-preserved : goal.loop-i-preserved
loop-i-preserved c = stepped_more _ _ _ _ _ c.loop-i.invariant c.loop-i-test.true (search rules) _ refl _ c.mark-made.ensures

pub returns : goal.returns
returns c = stepped_end _ _ _ _ _ c.loop-i.invariant (search rules)
