-- `rules::combine` meets its contract: by both passes.
-- Assumes nothing.
use Rattle.rules.proofs.DecideLaws.{on_faulty, on_unmatched, on_then_faulty, on_then_unmatched, on_then_matched}
use borrow.Author.Rules.{rules}
use Rattle.text.proofs.Search.{outright}
use Rattle.rules.proofs.combine.Goals as goal

pub returns-in-Err : goal.returns-in-Err
returns-in-Err c = outright (search (on_faulty, rules))

pub returns-in-Ok-None : goal.returns-in-Ok-None
returns-in-Ok-None c = outright (search (on_unmatched, rules))

pub returns-in-Err-rest : goal.returns-in-Err-rest
returns-in-Err-rest c = outright (search (on_then_faulty, rules))

pub returns-in-Ok-None-rest : goal.returns-in-Ok-None-rest
returns-in-Ok-None-rest c = outright (search (on_then_unmatched, rules))

pub returns-in-Ok-Some-rest : goal.returns-in-Ok-Some-rest
returns-in-Ok-Some-rest c = outright (search (on_then_matched, rules))
