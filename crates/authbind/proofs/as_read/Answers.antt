-- `authbind::as_read` meets its contract. Assumes nothing.
use borrow.Author.Rules.{rules}
use Rattle.text.proofs.Search.{outright}
use Rattle.authbind.proofs.StepLaws.{is_read, is_read_count}
use Rattle.authbind.proofs.as_read.Goals as goal

pub returns-in-Err : goal.returns-in-Err
returns-in-Err c = outright (search (is_read, rules))

pub returns-in-Ok : goal.returns-in-Ok
returns-in-Ok c = outright (search (is_read_count, rules))
