-- `lines::line::printable_block` meets its contract: the block lies within the text, or it is none. Assumes nothing.
use borrow.Author.Rules.{rules}
use Rattle.text.proofs.Search.{outright}
use Rattle.lines.specs.Block.{printable}
use Rattle.lines.proofs.BlockLaws.{block_none, block_short, block_whole}
use Rattle.lines.proofs.line.printable_block.Goals as goal

pub returns-then-text-lt16 : goal.returns-then-text-lt16
returns-then-text-lt16 c = outright (search (block_none printable, rules))

pub returns-then-text-i : goal.returns-then-text-i
returns-then-text-i c = outright (search (block_short printable, rules))

pub returns : goal.returns
returns c = outright (search (block_whole printable, rules))
