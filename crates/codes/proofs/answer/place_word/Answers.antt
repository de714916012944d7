-- The answer as numbers is that of the definition. Assumes nothing.
use borrow.Author.Rules.{rules}
use Rattle.text.proofs.Search.{outright}
use Rattle.codes.proofs.AnswerLaws.{place_word}
use Rattle.codes.proofs.answer.place_word.Goals as goal

pub returns : goal.returns
returns c = outright (search (place_word, rules))
