-- The number is the fault's. Assumes nothing.
use Rattle.codes.specs.Code.{check_numbers}
use Rattle.codes.proofs.answer.not_accepted.Goals as goal

pub returns : goal.returns
unfolding check_numbers
returns c = rw c.fault_number.ensures
