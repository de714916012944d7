-- `sheet::unpack::unpack` meets its contract: the frame, then the texts.
-- Assumes nothing.
use borrow.Author.Rules.{rules}
use Rattle.text.proofs.Search.{outright}
use Rattle.sheet.proofs.UnpackLaws.{unframed, unpack_refused, unpack_parts}
use Rattle.sheet.proofs.unpack.unpack.Goals as goal

pub returns-in_err-parts : goal.returns-in_err-parts
returns-in_err-parts c = outright (search (unframed, rules))

pub returns-in_err-check_parts : goal.returns-in_err-check_parts
returns-in_err-check_parts c = outright (search (unpack_refused, rules))

pub returns : goal.returns
returns c = outright (search (unpack_parts, rules))
