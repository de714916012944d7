-- `byuid::check` meets its contract: what the walk finds is the fault of the text, whatever is asked. Assumes nothing.
use borrow.Author.Rules.{rules}
use Rattle.text.proofs.Search.{outright}
use Rattle.byuid.proofs.TextLaws.{check_retired, check_sound}
use Rattle.byuid.proofs.check.Goals as goal

pub returns-in-Err : goal.returns-in-Err
returns-in-Err c = outright (search (check_retired, rules))

pub returns-in-Ok : goal.returns-in-Ok
returns-in-Ok c = outright (search (check_sound, rules))
