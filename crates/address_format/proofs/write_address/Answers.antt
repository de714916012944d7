-- `address_format::write_address` meets its contract: the text stands at the front of a buffer first, and is copied where there is room.
-- Assumes nothing.
use mathlib.Core.Path.{refl, sym}
use native.Mathlib.Omega.{arith}
use lib.Seq.{length-take-le}
use Rattle.address_format.proofs.WriteLaws.{length_addr_text, buffer_within, write_refused, write_count}
use Rattle.address_format.proofs.write_address.Goals as goal

pub put_address-n-requires : goal.put_address-n-requires
put_address-n-requires c = omega (arith, length_addr_text c.args.a)

pub returns-then-out-n : goal.returns-then-out-n
returns-then-out-n c = let both = write_refused _ _ _ _ (c.put_address-n.ensures.next, c.put_address-n.ensures.written) _ c.if-out-n.true _
    c.placeless.ensures in
    record { answer = both.0; holds = both.1 }

pub slice_bounds-buffer-end : goal.slice_bounds-buffer-end
slice_bounds-buffer-end c = buffer_within _ _ _ _ (c.put_address-n.ensures.next, c.put_address-n.ensures.written) refl

pub slice_bounds-put-end : goal.slice_bounds-put-end
slice_bounds-put-end c = sym (length-take-le _ _ (buffer_within _ _ _ _ (c.put_address-n.ensures.next, c.put_address-n.ensures.written) refl))

pub put-count-requires : goal.put-count-requires
put-count-requires c = omega (
  arith,
  length-take-le c.put_address-n.result c.put_address-n.new.out
      (buffer_within _ _ _ _ (c.put_address-n.ensures.next, c.put_address-n.ensures.written) refl),
)

pub returns : goal.returns
returns c = let both = write_count _ _ _ _ (c.put_address-n.ensures.next, c.put_address-n.ensures.written) _
    c.if-out-n.false _ _ (c.put-count.ensures.next, c.put-count.ensures.written) in record { answer = both.0; holds = both.1 }
