-- `salvage::salvage` meets its contract: the frame, then the texts. Assumes nothing.
use borrow.Author.Rules.{rules}
use Rattle.salvage.proofs.CallLaws.{call_small, call_refused, call_done}
use Rattle.salvage.proofs.salvage.Goals as goal

pub salvage_parts-requires : goal.salvage_parts-requires
salvage_parts-requires c = call_small _ _ c.frame.ensures _ c.in_ok-parts.was

pub returns-in_err-parts : goal.returns-in_err-parts
returns-in_err-parts c = let both = call_refused _ c.args.out.now c.args.list.now _ c.frame.ensures _ c.in_err-parts.was in
    record { answer = search rules; sheet = both.1.0; changes = both.1.1 }

pub returns : goal.returns
returns c = let both = call_done _ c.args.out.now
    c.args.list.now _
    c.frame.ensures _ _ _ _
    (c.salvage_parts.ensures.answer, (c.salvage_parts.ensures.sheet, c.salvage_parts.ensures.changes)) c.in_ok-parts.was in
    record { answer = both.0; sheet = both.1.0; changes = both.1.1 }
