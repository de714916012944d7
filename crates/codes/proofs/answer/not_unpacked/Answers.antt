-- The number is the fault's. Assumes nothing.
use Rattle.codes.specs.Code.{parts_numbers}
use Rattle.codes.proofs.answer.not_unpacked.Goals as goal

pub returns : goal.returns
unfolding parts_numbers
returns c = rw c.fault_number.ensures
