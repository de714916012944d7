-- `address::mapped::is_mapped` meets its contract: the low half shifted by 32 is its quotient. Assumes nothing.
use mathlib.Core.Path.{refl}
use Rattle.address.specs.Mapped.{is_mapped}
use Rattle.address.proofs.mapped.is_mapped.Goals as goal

pub returns : goal.returns
unfolding is_mapped
returns c = refl
