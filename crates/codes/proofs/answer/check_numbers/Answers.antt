-- A case at a time. Assumes nothing.
use borrow.Author.Rules.{rules}
use Rattle.text.proofs.Search.{outright}
use Rattle.codes.proofs.AnswerLaws.{check_refused, check_accepted}
use Rattle.codes.proofs.answer.check_numbers.Goals as goal

pub returns-in-Err : goal.returns-in-Err
returns-in-Err c = outright (search (check_refused, rules))

pub returns-in-Ok : goal.returns-in-Ok
returns-in-Ok c = outright (search (check_accepted, rules))
