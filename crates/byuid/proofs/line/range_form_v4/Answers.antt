-- `byuid::line::range_form_v4` meets its contract: a comma stands after the max, and the ports after it. Assumes nothing.
use borrow.Author.Rules.{rules}
use Rattle.text.proofs.Search.{outright}
use Rattle.byuid.proofs.FrontLaws.{range_end, range_unread, range_comma, range_other}
use Rattle.byuid.proofs.line.range_form_v4.Goals as goal

pub returns-then-t-i : goal.returns-then-t-i
returns-then-t-i c = outright (search (range_end, rules))

pub returns-in_err-max : goal.returns-in_err-max
returns-in_err-max c = outright (search (range_unread, rules))

pub returns-then-t-i-eq44 : goal.returns-then-t-i-eq44
returns-then-t-i-eq44 c = range_comma _ _ c.front_v4.ensures _ _ _ _ c.in_ok-max.was c.if-t-i.false _ c.if-t-i-eq44.true _ _ c.ports_hold-p.ensures c.both.ensures

pub returns-else-t-i-eq44 : goal.returns-else-t-i-eq44
returns-else-t-i-eq44 c = outright (search (range_other, rules))
