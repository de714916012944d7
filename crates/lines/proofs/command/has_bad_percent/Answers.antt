use borrow.Author.Rules.{rules}
use Rattle.text.proofs.Search.{outright}
use Rattle.lines.proofs.CommandLaws.{checked_none, checked_other, checked_pair, checked_end, bad_end, bad_byte}
use Rattle.lines.proofs.command.has_bad_percent.Goals as goal

pub loop-i-init : goal.loop-i-init
loop-i-init c = outright (search (checked_none, rules))

pub returns-then-s-k : goal.returns-then-s-k
returns-then-s-k c = outright (search (bad_end, rules))

pub loop-i-preserved-then-is_directive : goal.loop-i-preserved-then-is_directive
loop-i-preserved-then-is_directive c = checked_pair _ _ c.loop-i.invariant c.loop-i-test.true (search rules) (search rules) _
    c.is_directive.ensures c.if-is_directive.true

pub returns-else-is_directive : goal.returns-else-is_directive
returns-else-is_directive c = outright (search (bad_byte, rules))

pub loop-i-preserved : goal.loop-i-preserved
loop-i-preserved c = outright (search (checked_other, rules))

pub returns : goal.returns
returns c = outright (search (checked_end, rules))
