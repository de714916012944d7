-- `authbind::count_tests` meets its contract, by the kind of address. Assumes nothing.
use borrow.Author.Rules.{rules}
use Rattle.text.proofs.Search.{outright}
use Rattle.authbind.proofs.NameLaws.{three_tests, two_tests}
use Rattle.authbind.proofs.count_tests.Goals as goal

pub returns-then-is_abbreviated : goal.returns-then-is_abbreviated
returns-then-is_abbreviated c = outright (search (three_tests, rules))

pub returns-else-is_abbreviated : goal.returns-else-is_abbreviated
returns-else-is_abbreviated c = outright (search (two_tests, rules))
