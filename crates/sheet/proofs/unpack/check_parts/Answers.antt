-- `sheet::unpack::check_parts` meets its contract.
-- Assumes nothing.
use borrow.Author.Rules.{rules}
use Rattle.text.proofs.Search.{outright}
use Rattle.sheet.proofs.UnpackLaws.{texts_in_sheet}
use Rattle.sheet.proofs.unpack.check_parts.Goals as goal

pub returns : goal.returns
returns c = outright (search (texts_in_sheet, rules))
