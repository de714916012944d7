-- `byuid::line::look` meets its contract: a line of a form that grants is not of the retired one. Assumes nothing.
use borrow.Author.Rules.{rules}
use Rattle.text.proofs.Search.{outright}
use Rattle.byuid.proofs.LineLaws.{look_is, look_retired, look_nothing}
use Rattle.byuid.proofs.line.look.Goals as goal

pub returns-in-Some : goal.returns-in-Some
returns-in-Some c = outright (search (look_is, rules))

pub returns-then-is_retired : goal.returns-then-is_retired
returns-then-is_retired c = outright (search (look_retired, rules))

pub returns-else-is_retired : goal.returns-else-is_retired
returns-else-is_retired c = outright (search (look_nothing, rules))
