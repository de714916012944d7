-- `search::daemons_find` meets its contract. Assumes nothing.
use borrow.Author.Rules.{rules}
use Rattle.text.proofs.Search.{outright}
use Rattle.index.proofs.EntryLaws.{buffer_part, daemons_joined, daemons_plain}
use Rattle.index.proofs.OtherLaws.{daemons_other}
use Rattle.index.proofs.search.daemons_find.Goals as goal

pub slice_bounds-daemons_included-end : goal.slice_bounds-daemons_included-end
slice_bounds-daemons_included-end c = outright (search (buffer_part, rules))

pub returns-then-joins : goal.returns-then-joins
returns-then-joins c = outright (search (daemons_joined, rules))

pub returns-then-is_other : goal.returns-then-is_other
returns-then-is_other c = outright (search (daemons_other, rules))

pub returns : goal.returns
returns c = outright (search (daemons_plain, rules))
