-- `sheet::texts::check_texts` meets its contract: limits, the frame of the tables, contents.
-- Assumes nothing.
use borrow.Author.Rules.{rules}
use Rattle.text.proofs.Search.{outright}
use Rattle.sheet.proofs.TextsLaws.{frame_checked, texts_limits, texts_frame, texts_contents}
use Rattle.sheet.proofs.texts.check_texts.Goals as goal

pub check_contents-requires : goal.check_contents-requires
check_contents-requires c = outright (search (frame_checked, rules))

pub returns-in_err-check_limits : goal.returns-in_err-check_limits
returns-in_err-check_limits c = outright (search (texts_limits, rules))

pub returns-in_err-check_frame : goal.returns-in_err-check_frame
returns-in_err-check_frame c = outright (search (texts_frame, rules))

pub returns : goal.returns
returns c = outright (search (texts_contents, rules))
