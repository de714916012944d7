-- `sheet::frame::from_deny` meets its contract.
-- Assumes nothing.
use borrow.Author.Rules.{rules}
use Rattle.text.proofs.Search.{outright}
use Rattle.sheet.proofs.ReadLaws.{found_within, deny_refused, deny_found}
use Rattle.sheet.proofs.frame.from_deny.Goals as goal

pub from_byuid-requires : goal.from_byuid-requires
from_byuid-requires c = outright (search (found_within, rules))

pub returns-in_err-deny : goal.returns-in_err-deny
returns-in_err-deny c = outright (search (deny_refused, rules))

pub returns : goal.returns
returns c = outright (search (deny_found, rules))
