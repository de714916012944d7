-- `tidy::kept::kept_size` meets its contract: by the mark. Assumes nothing.
use borrow.Author.Rules.{rules}
use Rattle.text.proofs.Search.{outright}
use Rattle.tidy.proofs.KeptLaws.{size_none, size_all}
use Rattle.tidy.proofs.kept.kept_size.Goals as goal

pub returns-then-marks-n-eq2 : goal.returns-then-marks-n-eq2
returns-then-marks-n-eq2 c = outright (search (size_none, rules))

pub returns : goal.returns
returns c = outright (search (size_all, rules))
