-- The number is the fault's. Assumes nothing.
use Rattle.codes.specs.Code.{read_numbers}
use Rattle.codes.proofs.answer.not_read.Goals as goal

pub returns : goal.returns
unfolding read_numbers
returns c = rw c.fault_number.ensures
