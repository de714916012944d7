-- `byuid::line::comma_form_v4` meets its contract, by the byte after the first address. Assumes nothing.
use borrow.Author.Rules.{rules}
use Rattle.text.proofs.Search.{outright}
use Rattle.byuid.proofs.FrontLaws.{comma_end, comma_slash, comma_hyphen, comma_unread, comma_alone, comma_other}
use Rattle.byuid.proofs.line.comma_form_v4.Goals as goal

pub returns-then-l-i : goal.returns-then-l-i
returns-then-l-i c = outright (search (comma_end, rules))

pub returns-then-mark-eq47 : goal.returns-then-mark-eq47
returns-then-mark-eq47 c = outright (search (comma_slash, rules))

pub returns-then-mark-eq45 : goal.returns-then-mark-eq45
returns-then-mark-eq45 c = outright (search (comma_hyphen, rules))

pub returns-in_err-a : goal.returns-in_err-a
returns-in_err-a c = outright (search (comma_unread, rules))

pub returns-then-mark-eq44 : goal.returns-then-mark-eq44
returns-then-mark-eq44 c = comma_alone _ _ c.front_v4.ensures _ _ _ _ c.in_ok-a.was c.if-l-i.false c.if-mark-eq44.true _ _ c.ports_hold-p.ensures c.both.ensures

pub returns-else-mark-eq44 : goal.returns-else-mark-eq44
returns-else-mark-eq44 c = outright (search (comma_other, rules))
