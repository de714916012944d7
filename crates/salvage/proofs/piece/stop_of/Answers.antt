-- `salvage::piece::stop_of` meets its contract. Assumes nothing.
use borrow.Author.Rules.{rules}
use Rattle.text.proofs.Search.{outright}
use Rattle.salvage.proofs.PieceLaws.{stop_allow, stop_deny, stop_byuid, stop_empty, stop_portacl}
use Rattle.salvage.proofs.piece.stop_of.Goals as goal

pub returns-in-Allow : goal.returns-in-Allow
returns-in-Allow c = outright (search (stop_allow, rules))

pub returns-in-Deny : goal.returns-in-Deny
returns-in-Deny c = outright (search (stop_deny, rules))

pub returns-in-Byuid : goal.returns-in-Byuid
returns-in-Byuid c = outright (search (stop_byuid, rules))

pub returns-then-len-eq0 : goal.returns-then-len-eq0
returns-then-len-eq0 c = outright (search (stop_empty, rules))

pub returns-else-len-eq0 : goal.returns-else-len-eq0
returns-else-len-eq0 c = outright (search (stop_portacl, rules))
