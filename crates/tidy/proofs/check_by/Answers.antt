-- `tidy::check_by` meets its contract: the arms are the cases. Assumes nothing.
use borrow.Author.Rules.{rules}
use Rattle.text.proofs.Search.{outright}
use Rattle.tidy.proofs.CheckLaws.{by_faulty, by_unmatched, by_matched}
use Rattle.tidy.proofs.check_by.Goals as goal

pub returns-in-Err : goal.returns-in-Err
returns-in-Err c = outright (search (by_faulty, rules))

pub returns-in-Ok-None : goal.returns-in-Ok-None
returns-in-Ok-None c = outright (search (by_unmatched, rules))

pub returns-in-Ok-Some : goal.returns-in-Ok-Some
returns-in-Ok-Some c = outright (search (by_matched, rules))
