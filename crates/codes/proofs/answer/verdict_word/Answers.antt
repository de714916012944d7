-- The answer as numbers is that of the definition. Assumes nothing.
use borrow.Author.Rules.{rules}
use Rattle.text.proofs.Search.{outright}
use Rattle.codes.proofs.AnswerLaws.{verdict_word_lem}
use Rattle.codes.proofs.answer.verdict_word.Goals as goal

pub returns : goal.returns
returns c = outright (search (verdict_word_lem, rules))
