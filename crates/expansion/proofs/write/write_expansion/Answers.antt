-- `write::write_expansion` meets its contract, by the room. Assumes nothing.
use native.Mathlib.Omega.{arith}
use Rattle.expansion.proofs.PieceLaws.{room_refused, room_count}
use Rattle.expansion.proofs.write.write_expansion.Goals as goal

pub returns-then-out-n : goal.returns-then-out-n
returns-then-out-n c = let both = room_refused _ _ c.args.out.now _ c.expansion_length-n.ensures
    (omega (arith, c.if-out-n.true)) _ c.placeless.ensures in record { answer = both.0; holds = both.1 }

pub returns : goal.returns
returns c = let both = room_count _ _ c.args.out.now _
    c.expansion_length-n.ensures
    (omega (arith, c.if-out-n.false)) _ _ (c.put_expansion-count.ensures.count, c.put_expansion-count.ensures.written) in
    record { answer = both.0; holds = both.1 }
