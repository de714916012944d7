-- `mark` meets its contract. Assumes nothing.
use Rattle.views.proofs.BitLaws.{mark_on, mark_off}
use Rattle.views.proofs.mark.Goals as goal

pub returns-then-on : goal.returns-then-on
returns-then-on c = let a = c.args in mark_on a.m a.i _ _ c.if-on.true c.bit.ensures

pub returns : goal.returns
returns c = let a = c.args in mark_off a.m a.i _ c.if-on.false
