-- `byuid::decision_by` meets its contract: the port and the caller first, then what was found. Assumes nothing.
use borrow.Author.Rules.{rules}
use Rattle.text.proofs.Search.{outright}
use Rattle.byuid.proofs.TextLaws.{by_not_ruled, by_granted, by_no_line}
use Rattle.byuid.proofs.decision_by.Goals as goal

pub returns-then-not-is_ruled : goal.returns-then-not-is_ruled
returns-then-not-is_ruled c = outright (search (by_not_ruled, rules))

pub returns-then-granted : goal.returns-then-granted
returns-then-granted c = outright (search (by_granted, rules))

pub returns-else-granted : goal.returns-else-granted
returns-else-granted c = outright (search (by_no_line, rules))
