-- The refusal as a decision has it. Assumes nothing.
use borrow.Author.Rules.{rules}
use Rattle.text.proofs.Search.{outright}
use Rattle.codes.proofs.AnswerLaws.{refusal_next}
use Rattle.codes.proofs.answer.no_next.Goals as goal

pub returns : goal.returns
returns c = outright (search (refusal_next, rules))
