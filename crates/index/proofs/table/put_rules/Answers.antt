use borrow.Author.Rules.{rules}
use Rattle.text.proofs.Search.{outright}
use Rattle.index.proofs.TableLaws.{writing_start, writing_room, writing_more, writing_end, writing_text, next_less}
use Rattle.index.proofs.table.put_rules.Goals as goal

pub loop-i-init : goal.loop-i-init
loop-i-init c = outright (search (writing_start, rules))

pub put_line-after-requires : goal.put_line-after-requires
put_line-after-requires c = outright (search (writing_room, rules))

pub loop-i-smaller : goal.loop-i-smaller
loop-i-smaller c = outright (search (next_less, rules))

pub loop-i-preserved : goal.loop-i-preserved
loop-i-preserved c = outright (search (writing_more, rules))

pub returns : goal.returns
returns c = record { next = search (writing_end, rules); written = search (writing_text, rules) }
