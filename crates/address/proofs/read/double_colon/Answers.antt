use Prim.Native.Nat.{◌+◌, ◌-◌}
use mathlib.Core.Path.{◌≡◌}
use native.Mathlib.Omega.{arith}
use Rattle.address.proofs.ReadV6Laws.{place_found, place_more, place_none}
use Rattle.address.proofs.read.double_colon.Goals as goal

pub returns-then-s-i : goal.returns-then-s-i
returns-then-s-i c = let l = c.loop-i in place_found _ (l.i - 1) l.i (omega arith) l.invariant.1 c.loop-i-test.true c.if-s-i.true

pub loop-i-preserved : goal.loop-i-preserved
loop-i-preserved c = let l = c.loop-i in
    let e : l.i + 1 - 1 ≡ l.i = omega arith in
    rw e (omega arith, place_more _ (l.i - 1) l.i (omega arith) l.invariant.1 c.loop-i-test.true c.if-s-i.false)

pub returns : goal.returns
returns c = let l = c.loop-i in place_none _ (l.i - 1) l.i (omega arith) l.invariant.1 c.loop-i-test.false l.invariant.0
