-- `tidy::same::is_parting` meets its contract: the same tests. Assumes nothing.
use Rattle.tidy.proofs.ListLaws.{parting_is}
use Rattle.tidy.proofs.same.is_parting.Goals as goal

pub returns : goal.returns
returns c = parting_is _
