-- `check::check_tables` meets its contract. Assumes nothing.
use borrow.Author.Rules.{rules}
use Rattle.text.proofs.Search.{outright}
use Rattle.tables.proofs.CheckLaws.{clean_unknown}
use Rattle.tables.proofs.check.check_tables.Goals as goal

pub check_names-requires : goal.check_names-requires
check_names-requires c = outright (search (clean_unknown, rules))
