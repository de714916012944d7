-- `refuse` meets its contract. Assumes nothing.
use borrow.Author.Rules.{rules}
use Rattle.text.proofs.Search.{outright}
use Rattle.rules.proofs.DecideLaws.{refuse_faulty, refuse_unmatched, refuse_matched}
use Rattle.rules.proofs.refuse.Goals as goal

pub returns-in-Err : goal.returns-in-Err
returns-in-Err c = outright (search (refuse_faulty, rules))

pub returns-in-Ok-None : goal.returns-in-Ok-None
returns-in-Ok-None c = outright (search (refuse_unmatched, rules))

pub returns-in-Ok-Some : goal.returns-in-Ok-Some
returns-in-Ok-Some c = outright (search (refuse_matched, rules))
