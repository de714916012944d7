-- A case at a time. Assumes nothing.
use borrow.Author.Rules.{rules}
use Rattle.text.proofs.Search.{outright}
use Rattle.codes.proofs.AnswerLaws.{matter_refused, matter_matters, matter_settled}
use Rattle.codes.proofs.answer.matter_numbers.Goals as goal

pub returns-in-Err : goal.returns-in-Err
returns-in-Err c = outright (search (matter_refused, rules))

pub returns-in-Ok-None : goal.returns-in-Ok-None
returns-in-Ok-None c = outright (search (matter_matters, rules))

pub returns-in-Ok-Some : goal.returns-in-Ok-Some
returns-in-Ok-Some c = outright (search (matter_settled, rules))
