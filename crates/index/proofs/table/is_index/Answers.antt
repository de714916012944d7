-- `table::is_index` meets its contract. Assumes nothing.
use borrow.Author.Rules.{rules}
use Rattle.text.proofs.Search.{outright}
use Rattle.index.proofs.SearchLaws.{allow_fits, deny_fits, index_short, index_same}
use Rattle.index.proofs.TableLaws.{part_length}
use Rattle.index.proofs.table.is_index.Goals as goal

pub count_rules-of_allow-requires : goal.count_rules-of_allow-requires
count_rules-of_allow-requires c = outright (search (allow_fits, rules))

pub count_rules-of_deny-requires : goal.count_rules-of_deny-requires
count_rules-of_deny-requires c = outright (search (deny_fits, rules))

pub returns-then-index-middle : goal.returns-then-index-middle
returns-then-index-middle c = outright (search (index_short, rules))

pub slice_bounds-are_two-end : goal.slice_bounds-are_two-end
slice_bounds-are_two-end c = part_length c.args.index.now 8 (search rules)

pub are_rules-requires : goal.are_rules-requires
are_rules-requires c = outright (search (allow_fits, rules))

pub are_rules-requires-2 : goal.are_rules-requires-2
are_rules-requires-2 c = outright (search (deny_fits, rules))

pub returns : goal.returns
returns c = outright (search (index_same, rules))
