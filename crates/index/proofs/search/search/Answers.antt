-- `search::search` meets its contract. Assumes nothing.
use borrow.Author.Rules.{rules}
use Rattle.text.proofs.Search.{outright}
use Rattle.index.proofs.SearchLaws.{ready_few, searched_plain, searched_same}
use Rattle.index.proofs.search.search.Goals as goal

pub returns-then-tables-le2 : goal.returns-then-tables-le2
returns-then-tables-le2 c = outright (search (searched_plain, rules))

pub notes_on-notes-requires : goal.notes_on-notes-requires
notes_on-notes-requires c = outright (search (ready_few, rules))

pub returns : goal.returns
returns c = outright (search (searched_same, rules))
