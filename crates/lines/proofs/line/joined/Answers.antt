use borrow.Author.Rules.{rules}
use Rattle.text.proofs.Search.{outright}
use Rattle.lines.proofs.LineLaws.{measuring_start, measuring_pair, measuring_byte, measuring_end}
use Rattle.lines.proofs.line.joined.Goals as goal

pub loop-i-init : goal.loop-i-init
loop-i-init c = outright (search (measuring_start, rules))

pub loop-i-preserved-then-is_pair : goal.loop-i-preserved-then-is_pair
loop-i-preserved-then-is_pair c = outright (search (measuring_pair, rules))

pub loop-i-preserved : goal.loop-i-preserved
loop-i-preserved c = outright (search (measuring_byte, rules))

pub returns : goal.returns
returns c = outright (search (measuring_end, rules))
