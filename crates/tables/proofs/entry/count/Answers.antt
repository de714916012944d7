use borrow.Author.Rules.{rules}
use Rattle.text.proofs.Search.{outright}
use Rattle.tables.proofs.EntryLaws.{reached_start, reached_cut, reached_more, reached_end, count_all}
use Rattle.tables.proofs.entry.count.Goals as goal

pub loop-i-init : goal.loop-i-init
loop-i-init c = outright (search (reached_start, rules))

pub returns-then-span : goal.returns-then-span
returns-then-span c = outright (search (count_all, reached_cut, rules))

pub loop-i-preserved : goal.loop-i-preserved
loop-i-preserved c = outright (search (reached_more, rules))

pub returns : goal.returns
returns c = outright (search (count_all, reached_end, rules))
