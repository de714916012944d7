use borrow.Author.Rules.{rules}
use Rattle.text.proofs.Search.{outright}
use Rattle.lines.proofs.LineLaws.{pair_at_within, blank_byte, blank_pair, blank_stop, blank_end}
use Rattle.lines.proofs.line.is_blank.Goals as goal

pub loop-i-preserved-then-b : goal.loop-i-preserved-then-b
loop-i-preserved-then-b c = search (blank_byte, rules)

pub loop-i-preserved : goal.loop-i-preserved
loop-i-preserved c = outright (search (pair_at_within, blank_pair, rules))

pub returns-else-is_pair : goal.returns-else-is_pair
returns-else-is_pair c = outright (search (blank_stop, rules))

pub returns : goal.returns
returns c = outright (search (blank_end, rules))
