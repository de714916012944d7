-- What the calls answered, together. Assumes nothing.
use borrow.Author.Rules.{rules}
use Rattle.text.proofs.Search.{outright}
use Rattle.codes.proofs.AnswerLaws.{refusal_counted}
use Rattle.codes.proofs.answer.no_command.Goals as goal

pub returns : goal.returns
returns c = outright (search (refusal_counted, rules))
