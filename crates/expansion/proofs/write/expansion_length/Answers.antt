use borrow.Author.Rules.{rules}
use lib.ListN.{length}
use Rattle.text.proofs.Search.{outright}
use Rattle.expansion.proofs.PieceLaws.{measured_start, measured_literal, measured_directive, measured_end}
use Rattle.expansion.proofs.write.expansion_length.Goals as goal

pub loop-i-init : goal.loop-i-init
loop-i-init c = outright (search (measured_start, rules))

pub loop-i-preserved-then-t-i-eq37 : goal.loop-i-preserved-then-t-i-eq37
loop-i-preserved-then-t-i-eq37 c = measured_directive _ _ _ _ c.loop-i.invariant c.loop-i-test.true
    c.if-t-i-eq37.true _ c.byte_at.ensures _ c.inserted_length-n.ensures.length c.inserted_length-n.ensures.within

pub loop-i-preserved : goal.loop-i-preserved
loop-i-preserved c = measured_literal _ _ _ _ c.loop-i.invariant c.loop-i-test.true c.if-t-i-eq37.false

pub returns : goal.returns
returns c = measured_end _ _ _ _ c.loop-i.invariant c.loop-i-test.false
