-- `check::first_number` meets its contract. Assumes nothing.
use borrow.Author.Rules.{rules}
use Rattle.text.proofs.Search.{outright}
use Rattle.tables.proofs.CheckLaws.{number_here, number_none, number_kept}
use Rattle.tables.proofs.check.first_number.Goals as goal

pub returns-then-holds : goal.returns-then-holds
returns-then-holds c = outright (search (number_here, rules))

pub returns-else-holds : goal.returns-else-holds
returns-else-holds c = outright (search (number_none, rules))

pub returns-else-before-eq0 : goal.returns-else-before-eq0
returns-else-before-eq0 c = outright (search (number_kept, rules))
