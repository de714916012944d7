-- `byuid::line::both` meets its contract. Assumes nothing.
use borrow.Author.Rules.{rules}
use Rattle.text.proofs.Search.{outright}
use Rattle.byuid.proofs.LineLaws.{both_is}
use Rattle.byuid.proofs.line.both.Goals as goal

pub returns : goal.returns
returns c = outright (search (both_is, rules))
