-- `answers::known_part` meets its contract. Assumes nothing.
use borrow.Author.Rules.{rules}
use Rattle.text.proofs.Search.{outright}
use Rattle.index.proofs.AnswerLaws.{known_none, known_paranoid, known_some}
use Rattle.index.proofs.answers.known_part.Goals as goal

pub returns-in-Unknown : goal.returns-in-Unknown
returns-in-Unknown c = outright (search (known_none, known_paranoid, known_some, rules))

pub returns-in-Paranoid : goal.returns-in-Paranoid
returns-in-Paranoid c = outright (search (known_none, known_paranoid, known_some, rules))

pub returns-in-Known : goal.returns-in-Known
returns-in-Known c = outright (search (known_none, known_paranoid, known_some, rules))
