-- `check::check_unless` meets its contract. Assumes nothing.
use borrow.Author.Rules.{rules}
use Rattle.text.proofs.Search.{outright}
use Rattle.tables.proofs.CheckLaws.{clean_found}
use Rattle.tables.proofs.check.check_unless.Goals as goal

pub returns-then-clean : goal.returns-then-clean
returns-then-clean c = outright (search (clean_found, rules))
