-- `lines::rule::unmarked_block` meets its contract: the block lies within the text, or it is none. Assumes nothing.
use borrow.Author.Rules.{rules}
use Rattle.text.proofs.Search.{outright}
use Rattle.lines.specs.Block.{unmarked}
use Rattle.lines.proofs.BlockLaws.{block_none, block_short, block_whole}
use Rattle.lines.proofs.rule.unmarked_block.Goals as goal

pub returns-then-s-lt16 : goal.returns-then-s-lt16
returns-then-s-lt16 c = outright (search (block_none unmarked, rules))

pub returns-then-s-i : goal.returns-then-s-i
returns-then-s-i c = outright (search (block_short unmarked, rules))

pub returns : goal.returns
returns c = outright (search (block_whole unmarked, rules))
