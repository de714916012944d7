-- `tidy::check_framed` meets its contract: the frame, then the contents. Assumes nothing.
use borrow.Author.Rules.{rules}
use Rattle.text.proofs.Search.{outright}
use Rattle.tidy.proofs.CheckLaws.{checked_cut, checked_trailing, checked_contents, checked_whole}
use Rattle.tidy.proofs.check_framed.Goals as goal

pub check_whole-requires : goal.check_whole-requires
check_whole-requires c = outright (search (checked_whole, rules))

pub returns-in-Err-Cut : goal.returns-in-Err-Cut
returns-in-Err-Cut c = outright (search (checked_cut, rules))

pub returns-in-Err-Trailing : goal.returns-in-Err-Trailing
returns-in-Err-Trailing c = outright (search (checked_trailing, rules))

pub returns-in-Ok : goal.returns-in-Ok
returns-in-Ok c = outright (search (checked_contents, rules))
