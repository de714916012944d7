-- `byuid::line::ends_hold_v6` meets its contract: both ends are read. Assumes nothing.
use borrow.Author.Rules.{rules}
use Rattle.text.proofs.Search.{outright}
use Rattle.byuid.proofs.NumberLaws.{ends_held}
use Rattle.byuid.proofs.line.ends_hold_v6.Goals as goal

pub returns : goal.returns
returns c = outright (search (ends_held, rules))
