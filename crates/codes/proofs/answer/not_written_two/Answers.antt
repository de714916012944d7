-- The number is the fault's. Assumes nothing.
use Rattle.codes.specs.Code.{written_two_numbers}
use Rattle.codes.proofs.answer.not_written_two.Goals as goal

pub returns : goal.returns
unfolding written_two_numbers
returns c = rw c.fault_number.ensures
