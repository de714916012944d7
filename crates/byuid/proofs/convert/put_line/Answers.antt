-- `byuid::convert::put_line` meets its contract: two bytes of the line are exchanged where they stand. Assumes nothing.
use borrow.Author.Rules.{rules}
use Prim.Native.Nat.{◌+◌}
use native.Mathlib.Omega.{arith}
use lib.Seq.{lt-length-set}
use Rattle.text.proofs.Search.{outright}
use Rattle.byuid.proofs.ConvertLaws.{colon_within, comma_within, line_empty, line_converted, line_kept}
use Rattle.byuid.proofs.convert.put_line.Goals as goal

pub returns-then-l-eq0 : goal.returns-then-l-eq0
returns-then-l-eq0 c = outright (search (line_empty, rules))

pub slice_bounds-index_of-count : goal.slice_bounds-index_of-count
slice_bounds-index_of-count c = let h = colon_within _ _ c.is_retired.ensures c.if-is_retired.true _ c.index_of-colon.ensures.place in search rules

pub slice_bounds-index_of-start : goal.slice_bounds-index_of-start
slice_bounds-index_of-start c = let h = colon_within _ _ c.is_retired.ensures c.if-is_retired.true _ c.index_of-colon.ensures.place in search rules

pub bounds-out-at : goal.bounds-out-at
bounds-out-at c = let h = colon_within _ _ c.is_retired.ensures c.if-is_retired.true _
    c.index_of-colon.ensures.place in search rules

pub bounds-out-at-then-is_retired : goal.bounds-out-at-then-is_retired
bounds-out-at-then-is_retired c = let h = comma_within _ _ c.is_retired.ensures c.if-is_retired.true _
    c.index_of-colon.ensures.place _ c.index_of.ensures.place in
    lt-length-set c.put_bytes.new.out
    (c.args.at + c.index_of-colon.result) 44
    (omega (
      arith,
      h,
      c.put_bytes.auto.out,
      c.requires,
    ))

pub returns-then-is_retired : goal.returns-then-is_retired
returns-then-is_retired c = outright (search (line_converted, rules))

pub returns-else-is_retired : goal.returns-else-is_retired
returns-else-is_retired c = outright (search (line_kept, rules))
