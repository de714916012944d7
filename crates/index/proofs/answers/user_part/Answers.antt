-- `answers::user_part` meets its contract. Assumes nothing.
use borrow.Author.Rules.{rules}
use Rattle.text.proofs.Search.{outright}
use Rattle.index.proofs.AnswerLaws.{user_unfetched, user_unknown, user_some}
use Rattle.index.proofs.answers.user_part.Goals as goal

pub returns-in-NotFetched : goal.returns-in-NotFetched
returns-in-NotFetched c = outright (search (user_unfetched, user_unknown, user_some, rules))

pub returns-in-Unknown : goal.returns-in-Unknown
returns-in-Unknown c = outright (search (user_unfetched, user_unknown, user_some, rules))

pub returns-in-Known : goal.returns-in-Known
returns-in-Known c = outright (search (user_unfetched, user_unknown, user_some, rules))
