-- `answers::named` meets its contract. Assumes nothing.
use borrow.Author.Rules.{rules}
use Rattle.text.proofs.Search.{outright}
use Rattle.index.proofs.AnswerLaws.{named_is}
use Rattle.index.proofs.answers.named.Goals as goal

pub returns : goal.returns
returns c = outright (search (named_is, rules))
