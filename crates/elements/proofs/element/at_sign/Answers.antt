-- `elements::element::at_sign` meets its contract. The place of the first `@` after the first byte. Assumes nothing.
use Rattle.elements.proofs.ElementLaws.{at_sign_nil, at_sign_cons}
use Rattle.elements.proofs.element.at_sign.Goals as goal

pub returns-then-e-eq0 : goal.returns-then-e-eq0
returns-then-e-eq0 c = let both = at_sign_nil _ c.if-e-eq0.true in record { place = both.0; within = both.1 }

pub returns : goal.returns
returns c = let both = at_sign_cons _ c.if-e-eq0.false _ c.index_of.ensures.place in record { place = both.0; within = both.1 }
