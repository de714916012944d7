-- `has_bit` meets its contract. Assumes nothing.
use Rattle.views.proofs.BitLaws.{bit_shr}
use Rattle.views.proofs.has_bit.Goals as goal

pub returns : goal.returns
returns c = bit_shr _ _
