-- The number is the fault's. Assumes nothing.
use Rattle.codes.specs.Code.{written_numbers}
use Rattle.codes.proofs.answer.not_written.Goals as goal

pub returns : goal.returns
unfolding written_numbers
returns c = rw c.fault_number.ensures
