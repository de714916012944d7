-- `byuid::decide` meets its contract: the limit, then what the walk found. Assumes nothing.
use borrow.Author.Rules.{rules}
use Rattle.text.proofs.Search.{outright}
use Rattle.byuid.proofs.TextLaws.{over_limit_lem, decide_retired, decide_answer}
use Rattle.byuid.proofs.decide.Goals as goal

pub returns-then-over : goal.returns-then-over
returns-then-over c = outright (search (over_limit_lem, rules))

pub returns-in-Err : goal.returns-in-Err
returns-in-Err c = outright (search (decide_retired, rules))

pub returns-in-Ok : goal.returns-in-Ok
returns-in-Ok c = outright (search (decide_answer, rules))
