use borrow.Author.Rules.{rules}
use Rattle.text.proofs.Search.{outright}
use Rattle.tables.proofs.EntryLaws.{sought_start, sought_cut, sought_found, sought_more, sought_end}
use Rattle.tables.proofs.start.find_from.Goals as goal

pub loop-i-init : goal.loop-i-init
loop-i-init c = outright (search (sought_start, rules))

pub returns-then-span : goal.returns-then-span
returns-then-span c = outright (search (sought_cut, rules))

pub returns-then-is_named : goal.returns-then-is_named
returns-then-is_named c = outright (search (sought_found, rules))

pub loop-i-preserved : goal.loop-i-preserved
loop-i-preserved c = outright (search (sought_more, rules))

pub returns : goal.returns
returns c = outright (search (sought_end, rules))
