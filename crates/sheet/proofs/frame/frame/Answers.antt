-- `sheet::frame::frame` meets its contract.
-- Assumes nothing.
use borrow.Author.Rules.{rules}
use Rattle.text.proofs.Search.{outright}
use Rattle.sheet.proofs.ReadLaws.{found_within, allow_refused, allow_found}
use Rattle.sheet.proofs.frame.frame.Goals as goal

pub from_deny-requires : goal.from_deny-requires
from_deny-requires c = outright (search (found_within, rules))

pub returns-in_err-allow : goal.returns-in_err-allow
returns-in_err-allow c = outright (search (allow_refused, rules))

pub returns : goal.returns
returns c = outright (search (allow_found, rules))
