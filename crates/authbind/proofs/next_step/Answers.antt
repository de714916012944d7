-- `authbind::next_step` meets its contract: the checks in their order, and then what comes next. Assumes nothing.
use Rattle.authbind.proofs.StepLaws.{unfit, not_ruled_lem, left_out_lem, goes_on}
use Rattle.authbind.proofs.next_step.Goals as goal

pub returns-then-not-all_kinds-is_known : goal.returns-then-not-all_kinds-is_known
returns-then-not-all_kinds-is_known c = let both = unfit _ _ _ _ _ _ _ c.all_kinds.ensures c.is_known.ensures c.if-not-all_kinds-is_known.true-raw _
    c.placeless.ensures in record { answer = both.0; holds = both.1 }

pub returns-then-not-is_ruled : goal.returns-then-not-is_ruled
returns-then-not-is_ruled c = let both = not_ruled_lem _ _ _ _ _ _ _ c.all_kinds.ensures c.is_known.ensures
    c.if-not-all_kinds-is_known.false-raw _ c.is_ruled.ensures c.if-not-is_ruled.true-raw in
    record { answer = both.0; holds = both.1 }

pub returns-then-is_left_out : goal.returns-then-is_left_out
returns-then-is_left_out c = let both = left_out_lem _ _ _ _ _ _ _ c.all_kinds.ensures c.is_known.ensures c.if-not-all_kinds-is_known.false-raw _
    c.is_ruled.ensures c.if-not-is_ruled.false-raw _
    c.is_left_out.ensures c.if-is_left_out.true _ c.placeless-then-is_left_out.ensures in record { answer = both.0; holds = both.1 }

pub returns : goal.returns
returns c = let both = goes_on _ _ _ _ c.args.out.now _ _ c.all_kinds.ensures c.is_known.ensures c.if-not-all_kinds-is_known.false-raw _
    c.is_ruled.ensures c.if-not-is_ruled.false-raw _
    c.is_left_out.ensures c.if-is_left_out.false _ c.count_tests.ensures _ c.turn_after.ensures _ _ (c.step.ensures.answer, c.step.ensures.holds) in
    record { answer = both.0; holds = both.1 }
