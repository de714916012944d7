-- `element::sign_place` meets its contract: a mask without the class of `@` tells that there is none. Assumes nothing.
use Rattle.elements.proofs.SeenLaws.{sign_none}
use Rattle.elements.proofs.element.sign_place.Goals as goal

pub returns-then-mask-eq0 : goal.returns-then-mask-eq0
returns-then-mask-eq0 c = let both = sign_none _ _ c.requires c.if-mask-eq0.true in record { place = both.0; within = both.1 }
