-- `search::ended` meets its contract. Assumes nothing.
use borrow.Author.Rules.{rules}
use Rattle.text.proofs.Search.{outright}
use Rattle.index.proofs.EntryLaws.{ended_answer, ended_nothing}
use Rattle.index.proofs.search.ended.Goals as goal

pub returns-in-Some : goal.returns-in-Some
returns-in-Some c = outright (search (ended_answer, ended_nothing, rules))

pub returns-in-None : goal.returns-in-None
returns-in-None c = outright (search (ended_answer, ended_nothing, rules))
