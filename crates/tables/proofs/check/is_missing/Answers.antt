-- `check::is_missing` meets its contract. Assumes nothing.
use borrow.Author.Rules.{rules}
use Rattle.text.proofs.Search.{outright}
use Rattle.tables.proofs.CheckLaws.{missing_none, missing_found}
use Rattle.tables.proofs.check.is_missing.Goals as goal

pub returns-in-None : goal.returns-in-None
returns-in-None c = outright (search (missing_none, rules))

pub returns-in-Some : goal.returns-in-Some
returns-in-Some c = outright (search (missing_found, rules))
