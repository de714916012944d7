-- `search::clients_find` meets its contract. Assumes nothing.
use borrow.Author.Rules.{rules}
use Rattle.text.proofs.Search.{outright}
use Rattle.index.proofs.EntryLaws.{buffer_part, clients_joined, clients_plain}
use Rattle.index.proofs.search.clients_find.Goals as goal

pub slice_bounds-clients_included-end : goal.slice_bounds-clients_included-end
slice_bounds-clients_included-end c = outright (search (buffer_part, rules))

pub returns-then-joins : goal.returns-then-joins
returns-then-joins c = outright (search (clients_joined, rules))

pub returns : goal.returns
returns c = outright (search (clients_plain, rules))
