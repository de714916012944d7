-- `check::is_named_before` meets its contract. Assumes nothing.
use borrow.Author.Rules.{rules}
use Rattle.text.proofs.Search.{outright}
use Rattle.tables.proofs.CheckLaws.{before_none, before_found}
use Rattle.tables.proofs.check.is_named_before.Goals as goal

pub returns-in-None : goal.returns-in-None
returns-in-None c = outright (search (before_none, rules))

pub returns-in-Some : goal.returns-in-Some
returns-in-Some c = outright (search (before_found, rules))
