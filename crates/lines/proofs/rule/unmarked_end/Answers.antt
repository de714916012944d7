use borrow.Author.Rules.{rules}
use Rattle.text.proofs.Search.{outright}
use Rattle.lines.specs.Block.{unmarked}
use Rattle.lines.proofs.BlockLaws.{block_fits, block_less, passed_start, passed_more}
use Rattle.lines.proofs.rule.unmarked_end.Goals as goal

pub loop-i-init : goal.loop-i-init
loop-i-init c = outright (search (passed_start unmarked, rules))

pub overflow_add-i : goal.overflow_add-i
overflow_add-i c = record { fits = search (block_fits unmarked, rules) }

pub loop-i-smaller : goal.loop-i-smaller
loop-i-smaller c = outright (search (block_less unmarked, rules))

pub loop-i-preserved : goal.loop-i-preserved
loop-i-preserved c = outright (search (passed_more unmarked, rules))
