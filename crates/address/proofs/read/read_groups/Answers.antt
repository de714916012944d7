use borrow.Author.Rules.{rules}
use Rattle.text.proofs.Search.{outright}
use Rattle.address.proofs.RowLaws.{no_groups, row_start, row_many, row_bad, row_ends, row_group, row_at, row_step, row_room}
use Rattle.address.proofs.read.read_groups.Goals as goal

pub returns-then-s-eq0 : goal.returns-then-s-eq0
returns-then-s-eq0 c = outright (search (no_groups, rules))

pub loop-count-init : goal.loop-count-init
loop-count-init c = outright (search (row_start, rules))

pub returns-in-Nothing : goal.returns-in-Nothing
returns-in-Nothing c = outright (search (row_bad, rules))

pub returns-in-Last : goal.returns-in-Last
returns-in-Last c = outright (search (row_ends, rules))

pub push_group-w-requires : goal.push_group-w-requires
push_group-w-requires c = outright (search (row_room, row_group, rules))

pub overflow_add-at : goal.overflow_add-at
overflow_add-at c = record { fits = search (row_at, rules) }

pub loop-count-preserved : goal.loop-count-preserved
loop-count-preserved c = outright (search (row_step, rules))

pub returns : goal.returns
returns c = outright (search (row_many, rules))
