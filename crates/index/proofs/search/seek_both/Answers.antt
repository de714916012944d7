-- `search::seek_both` meets its contract. Assumes nothing.
use borrow.Author.Rules.{rules}
use Rattle.text.proofs.Search.{outright}
use Rattle.index.proofs.EntryLaws.{both_answer, both_ended}
use Rattle.index.proofs.search.seek_both.Goals as goal

pub returns-in-Some : goal.returns-in-Some
returns-in-Some c = outright (search (both_answer, rules))

pub returns-in-None : goal.returns-in-None
returns-in-None c = outright (search (both_ended, rules))
