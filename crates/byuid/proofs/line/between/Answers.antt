-- `byuid::line::between` meets its contract: both ends are compared. Assumes nothing.
use borrow.Author.Rules.{rules}
use Rattle.text.proofs.Search.{outright}
use Rattle.byuid.proofs.NumberLaws.{between_value}
use Rattle.byuid.proofs.line.between.Goals as goal

pub returns : goal.returns
returns c = outright (search (between_value, rules))
