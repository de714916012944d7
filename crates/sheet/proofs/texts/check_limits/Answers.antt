-- `sheet::texts::check_limits` meets its contract.
-- Assumes nothing.
use borrow.Author.Rules.{rules}
use Rattle.text.proofs.Search.{outright}
use Rattle.sheet.proofs.TextsLaws.{over_allow, over_deny, over_byuid, over_portacl, within_limits}
use Rattle.sheet.proofs.texts.check_limits.Goals as goal

pub returns-then-over : goal.returns-then-over
returns-then-over c = outright (search (over_allow, rules))

pub returns-then-over-2 : goal.returns-then-over-2
returns-then-over-2 c = outright (search (over_deny, rules))

pub returns-then-over-3 : goal.returns-then-over-3
returns-then-over-3 c = outright (search (over_byuid, rules))

pub returns-then-over-4 : goal.returns-then-over-4
returns-then-over-4 c = outright (search (over_portacl, rules))

pub returns : goal.returns
returns c = outright (search (within_limits, rules))
