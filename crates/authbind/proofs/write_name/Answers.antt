-- `authbind::write_name` meets its contract: the name stands at the front of a buffer first, and is copied where there is room. Assumes nothing.
use mathlib.Core.Path.{sym}
use native.Mathlib.Omega.{arith}
use lib.Seq.{length-take-le}
use Rattle.authbind.proofs.NameLaws.{length_name, buffer_within, name_refused, name_count}
use Rattle.authbind.proofs.write_name.Goals as goal

pub put_name-n-requires : goal.put_name-n-requires
put_name-n-requires c = omega (
  arith,
  length_name c.args.file c.args.port c.args.addr
      c.args.uid,
)

pub returns-then-out-n : goal.returns-then-out-n
returns-then-out-n c = let both = name_refused _ _ _ _ (c.put_name-n.ensures.next, c.put_name-n.ensures.written) _ c.if-out-n.true _
    c.placeless.ensures in
    record { answer = both.0; holds = both.1 }

pub slice_bounds-buffer-end : goal.slice_bounds-buffer-end
slice_bounds-buffer-end c = buffer_within _ _ _ _ (c.put_name-n.ensures.next, c.put_name-n.ensures.written) (length_name _ _ _ _)

pub slice_bounds-put-end : goal.slice_bounds-put-end
slice_bounds-put-end c = sym (length-take-le _ _ (buffer_within _ _ _ _ (
  c.put_name-n.ensures.next,
  c.put_name-n.ensures.written,
) (length_name _ _ _ _)))

pub put-count-requires : goal.put-count-requires
put-count-requires c = omega (
  arith,
  length-take-le c.put_name-n.result c.put_name-n.new.out
      (buffer_within _ _ _ _ (c.put_name-n.ensures.next, c.put_name-n.ensures.written) (length_name _ _ _ _)),
)

pub returns : goal.returns
returns c = let both = name_count _ _ _ _ (c.put_name-n.ensures.next, c.put_name-n.ensures.written) _
    c.if-out-n.false _ _ (c.put-count.ensures.next, c.put-count.ensures.written) in record { answer = both.0; holds = both.1 }
