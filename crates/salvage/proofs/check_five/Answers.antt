-- `salvage::check_five` meets its contract: the frame, then 15 and 17. Assumes nothing.
use borrow.Author.Rules.{rules}
use Rattle.text.proofs.Search.{outright}
use Rattle.salvage.proofs.CallLaws.{five_frame, five_read, five_rest}
use Rattle.salvage.proofs.check_five.Goals as goal

pub check_section_five-requires : goal.check_section_five-requires
check_section_five-requires c = outright (search (five_read, rules))

pub returns-in_err-check_frame : goal.returns-in_err-check_frame
returns-in_err-check_frame c = outright (search (five_frame, rules))

pub returns : goal.returns
returns c = outright (search (five_rest, rules))
