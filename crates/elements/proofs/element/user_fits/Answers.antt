-- `elements::element::user_fits` meets its contract. Only a known name is looked at. Assumes nothing.
use Rattle.elements.proofs.element.user_fits.Goals as goal

pub returns-in-Known : goal.returns-in-Known
returns-in-Known c = rw c.in-Known.is c.size_fits.ensures
