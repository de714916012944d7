-- `salvage::write_both` meets its contract: all is measured before the first byte is written. Assumes nothing.
use borrow.Author.Rules.{rules}
use native.Mathlib.Omega.{arith}
use Rattle.salvage.proofs.CallLaws.{no_sheet_room, no_list_room, both_grown, both_written}
use Rattle.salvage.proofs.write_both.Goals as goal

pub returns-then-out-sizes : goal.returns-then-out-sizes
returns-then-out-sizes c = let both = no_sheet_room _ _ _ _ _ _ _ _ _ c.measure_texts-sizes.ensures.sizes _
    c.check_sizes.ensures (search rules) c.if-out-sizes.true _
    c.placeless.ensures in record { answer = both.0; sheet = both.1.0; changes = both.1.1 }

pub returns-then-list-measure_list : goal.returns-then-list-measure_list
returns-then-list-measure_list c = let both = no_list_room _ _ _ _ _ _ _ _ _ c.measure_texts-sizes.ensures.sizes _ c.check_sizes.ensures
    (search rules)
    c.if-out-sizes.false _ c.measure_list.ensures c.if-list-measure_list.true _ c.placeless-then-list-measure_list.ensures in
    record { answer = both.0; sheet = both.1.0; changes = both.1.1 }

pub put_sheet-bytes-requires : goal.put_sheet-bytes-requires
put_sheet-bytes-requires c = record {
  small = c.requires.small;
  sizes_value = c.measure_texts-sizes.ensures.sizes;
  tables_in_bounds =
      c.if-out-sizes.false;
}

pub put_list-listed-requires : goal.put_list-listed-requires
put_list-listed-requires c = record {
  small = c.requires.small;
  tables_in_bounds = omega (
    arith,
    c.measure_list.ensures,
    c.if-list-measure_list.false,
  );
}

pub returns-in_err-check_sizes : goal.returns-in_err-check_sizes
returns-in_err-check_sizes c = let both = both_grown _ _ _ _ _ _ c.args.out.now c.args.list.now _ c.measure_texts-sizes.ensures.sizes _
    c.check_sizes.ensures _ c.in_err-check_sizes.was in record { answer = search rules; sheet = both.1.0; changes = both.1.1 }

pub returns : goal.returns
returns c = let both = both_written _ _ _ _ _ _ _ _ _ c.measure_texts-sizes.ensures.sizes _
    c.check_sizes.ensures (search rules) c.if-out-sizes.false _
    c.measure_list.ensures
    c.if-list-measure_list.false _ _ _ _
    (c.put_sheet-bytes.ensures.count, c.put_sheet-bytes.ensures.written) (c.put_list-listed.ensures.count, c.put_list-listed.ensures.written) in
    record { answer = both.0; sheet = both.1.0; changes = both.1.1 }
