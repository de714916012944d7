-- `authbind::as_test` meets its contract. Assumes nothing.
use borrow.Author.Rules.{rules}
use Rattle.text.proofs.Search.{outright}
use Rattle.authbind.proofs.StepLaws.{is_test, is_test_count}
use Rattle.authbind.proofs.as_test.Goals as goal

pub returns-in-Err : goal.returns-in-Err
returns-in-Err c = outright (search (is_test, rules))

pub returns-in-Ok : goal.returns-in-Ok
returns-in-Ok c = outright (search (is_test_count, rules))
