use borrow.Author.Rules.{rules}
use Rattle.text.proofs.Search.{outright}
use Rattle.lines.proofs.LineLaws.{joining_pair, joining_room, joining_byte, joining_end}
use Rattle.lines.proofs.line.join_into.Goals as goal

pub loop-i-preserved-then-is_pair : goal.loop-i-preserved-then-is_pair
loop-i-preserved-then-is_pair c = outright (search (joining_pair, rules))

pub bounds-out-n : goal.bounds-out-n
bounds-out-n c = outright (search (joining_room, rules))

pub loop-i-preserved : goal.loop-i-preserved
loop-i-preserved c = outright (search (joining_byte, rules))

pub returns : goal.returns
returns c = let both = joining_end c.loop-i.invariant.0 c.loop-i-test.false in record { count = both.0; written = both.1 }
