-- `search::join_list` meets its contract. Assumes nothing.
use borrow.Author.Rules.{rules}
use Rattle.text.proofs.Search.{outright}
use Rattle.index.proofs.EntryLaws.{join_over, join_room, join_short, join_within}
use Rattle.index.proofs.search.join_list.Goals as goal

pub returns-then-measured-gt2048 : goal.returns-then-measured-gt2048
returns-then-measured-gt2048 c = record { within = search rules; joined = search (join_over, rules) }

pub join_into-requires : goal.join_into-requires
join_into-requires c = outright (search (join_room, rules))

pub returns : goal.returns
returns c = record { within = search (join_short, rules); joined = search (join_within, rules) }
