-- `request::fits` meets its contract: the names are those at the places. Assumes nothing.
use Rattle.elements.proofs.request.fits.Goals as goal

pub returns : goal.returns
returns c = cc
