-- `sheet::frame::from_byuid` meets its contract.
-- Assumes nothing.
use borrow.Author.Rules.{rules}
use Rattle.text.proofs.Search.{outright}
use Rattle.sheet.proofs.ReadLaws.{found_within, byuid_refused, byuid_found}
use Rattle.sheet.proofs.frame.from_byuid.Goals as goal

pub from_portacl-requires : goal.from_portacl-requires
from_portacl-requires c = outright (search (found_within, rules))

pub returns-in_err-byuid : goal.returns-in_err-byuid
returns-in_err-byuid c = outright (search (byuid_refused, rules))

pub returns : goal.returns
returns c = outright (search (byuid_found, rules))
