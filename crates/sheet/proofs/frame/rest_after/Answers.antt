-- `sheet::frame::rest_after` meets its contract. Assumes nothing.
use mathlib.Core.Path.{refl}
use Rattle.sheet.proofs.frame.rest_after.Goals as goal

pub returns : goal.returns
returns c = refl
