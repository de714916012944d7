use borrow.Author.Rules.{rules}
use Rattle.text.proofs.Search.{outright}
use Rattle.lines.specs.Block.{unmarked}
use Rattle.lines.proofs.BlockLaws.{passing_more, passing_end}
use Rattle.lines.proofs.rule.is_unmarked.Goals as goal

pub loop-b-preserved : goal.loop-b-preserved
loop-b-preserved c = outright (search (passing_more unmarked, rules))

pub returns : goal.returns
returns c = outright (search (passing_end unmarked, rules))
