-- `write_parts` meets its contract: the rules are counted, then room is looked for, then the index is written. Assumes nothing.
use borrow.Author.Rules.{rules}
use Rattle.text.proofs.Search.{outright}
use Rattle.index.proofs.SearchLaws.{allow_fits, deny_fits, index_no_room, index_untouched, index_room, index_count, index_text}
use Rattle.index.proofs.write_parts.Goals as goal

pub count_rules-of_allow-requires : goal.count_rules-of_allow-requires
count_rules-of_allow-requires c = outright (search (allow_fits, rules))

pub count_rules-of_deny-requires : goal.count_rules-of_deny-requires
count_rules-of_deny-requires c = outright (search (deny_fits, rules))

pub returns-then-out-of_allow : goal.returns-then-out-of_allow
returns-then-out-of_allow c = record { answer = search (index_no_room, rules); holds = search (index_untouched, rules) }

pub put_index-requires : goal.put_index-requires
put_index-requires c = outright (search (allow_fits, deny_fits, index_room, rules))

pub returns : goal.returns
returns c = record { answer = search (index_count, rules); holds = search (index_text, rules) }
