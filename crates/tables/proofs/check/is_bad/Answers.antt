-- `check::is_bad` meets its contract. Assumes nothing.
use borrow.Author.Rules.{rules}
use Rattle.text.proofs.Search.{outright}
use Rattle.tables.proofs.CheckLaws.{bad_is}
use Rattle.tables.proofs.check.is_bad.Goals as goal

pub returns : goal.returns
returns c = outright (search (bad_is, rules))
