-- `answers::unfit_answer` meets its contract. Assumes nothing.
use borrow.Author.Rules.{rules}
use Rattle.text.proofs.Search.{outright}
use Rattle.index.proofs.AnswerLaws.{unfit_numbers_lem}
use Rattle.index.proofs.answers.unfit_answer.Goals as goal

pub returns : goal.returns
returns c = outright (search (unfit_numbers_lem, rules))
