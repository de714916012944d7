use borrow.Author.Rules.{rules}
use native.Mathlib.Omega.{arith}
use Rattle.text.proofs.Search.{outright}
use Rattle.expansion.proofs.PieceLaws.{expanded_start, expanded_end, literal_room, expanded_literal, directive_room, expanded_directive}
use Rattle.expansion.proofs.write.put_expansion.Goals as goal

pub loop-j-init : goal.loop-j-init
loop-j-init c = outright (search (expanded_start, rules))

pub put_inserted-n-requires : goal.put_inserted-n-requires
put_inserted-n-requires c = directive_room _ _ _ _ _ _ c.loop-j.invariant c.requires c.loop-j-test.true
    c.if-t-j-eq37.true _ c.byte_at.ensures

pub loop-j-preserved-then-t-j-eq37 : goal.loop-j-preserved-then-t-j-eq37
loop-j-preserved-then-t-j-eq37 c = expanded_directive _ _ _ _ _ _ c.loop-j.invariant c.requires
    c.loop-j-test.true
    c.if-t-j-eq37.true _ c.byte_at.ensures _ _
    (c.put_inserted-n.ensures.next, c.put_inserted-n.ensures.written) c.put_inserted-n.auto.out

pub bounds-out-n : goal.bounds-out-n
bounds-out-n c = literal_room _ _ _ _ _ _ c.loop-j.invariant c.requires c.loop-j-test.true
    c.if-t-j-eq37.false

pub overflow_add-n : goal.overflow_add-n
overflow_add-n c = omega (
  arith,
  literal_room _ _ _ _ _ _ c.loop-j.invariant c.requires c.loop-j-test.true
      c.if-t-j-eq37.false,
)

pub loop-j-preserved : goal.loop-j-preserved
loop-j-preserved c = expanded_literal _ _ _ _ _ _ c.loop-j.invariant c.requires c.loop-j-test.true
    c.if-t-j-eq37.false

pub shape_of-out : goal.shape_of-out
shape_of-out c = c.loop-j.invariant.long

pub returns : goal.returns
returns c = let both = expanded_end _ _ _ _ _ _ c.loop-j.invariant c.loop-j-test.false in record { count = both.0; written = both.1 }
