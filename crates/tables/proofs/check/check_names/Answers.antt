-- `check::check_names` meets its contract. Assumes nothing.
use borrow.Author.Rules.{rules}
use Rattle.text.proofs.Search.{outright}
use Rattle.tables.proofs.CheckLaws.{checked_none}
use Rattle.tables.proofs.check.check_names.Goals as goal

pub returns-then-table_count-eq0 : goal.returns-then-table_count-eq0
returns-then-table_count-eq0 c = outright (search (checked_none, rules))
