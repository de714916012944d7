-- `decide_tables` meets its contract: the limits, then the rest. Assumes nothing.
use borrow.Author.Rules.{rules}
use Rattle.text.proofs.Search.{outright}
use Rattle.rules.proofs.DecideLaws.{tabled_allow, tabled_deny, tabled_framed}
use Rattle.rules.proofs.decide_tables.Goals as goal

pub returns-then-over : goal.returns-then-over
returns-then-over c = outright (search (tabled_allow, rules))

pub returns-then-over-2 : goal.returns-then-over-2
returns-then-over-2 c = outright (search (tabled_deny, rules))

pub returns : goal.returns
returns c = outright (search (tabled_framed, rules))
