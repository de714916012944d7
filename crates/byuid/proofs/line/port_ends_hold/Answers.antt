-- `byuid::line::port_ends_hold` meets its contract: both ends are read. Assumes nothing.
use borrow.Author.Rules.{rules}
use Rattle.text.proofs.Search.{outright}
use Rattle.byuid.proofs.NumberLaws.{ends_no_min, ends_no_max, ends_two}
use Rattle.byuid.proofs.line.port_ends_hold.Goals as goal

pub returns-in_err-min : goal.returns-in_err-min
returns-in_err-min c = outright (search (ends_no_min, rules))

pub returns-in_err-max : goal.returns-in_err-max
returns-in_err-max c = outright (search (ends_no_max, rules))

pub returns : goal.returns
returns c = outright (search (ends_two, rules))
