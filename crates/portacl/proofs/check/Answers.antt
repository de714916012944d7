-- `portacl::check` meets its contract: what the walk finds is the fault of the text, whoever binds what.
-- Assumes nothing.
use Rattle.portacl.proofs.DecideLaws.{check_bad, check_sound}
use borrow.Author.Rules.{rules}
use Rattle.text.proofs.Search.{outright}
use Rattle.portacl.proofs.check.Goals as goal

pub returns-in-Err : goal.returns-in-Err
returns-in-Err c = outright (search (check_bad, rules))

pub returns-in-Ok : goal.returns-in-Ok
returns-in-Ok c = outright (search (check_sound, rules))
