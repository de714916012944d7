-- `directive::name_before` meets its contract, by the test. Assumes nothing.
use borrow.Author.Tests.{eq-eqb, ne_eqb}
use Rattle.expansion.specs.Code.{texts_at}
use Rattle.expansion.proofs.directive.name_before.Goals as goal

pub returns-then-y-eq99 : goal.returns-then-y-eq99
unfolding texts_at
returns-then-y-eq99 c = rw (eq-eqb _ _ c.if-y-eq99.true) c.user_text.ensures

pub returns : goal.returns
unfolding texts_at
returns c = rw (ne_eqb _ _ c.if-y-eq99.false) c.part_of.ensures
