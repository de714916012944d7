-- `salvage::write::put_sheet` meets its contract: four texts, each after its count, and the tables. Assumes nothing.
use borrow.Author.Rules.{rules}
use native.Mathlib.Omega.{arith}
use Rattle.salvage.proofs.CallLaws.{size_allow, size_deny, size_byuid, size_portacl, sheet_put}
use Rattle.salvage.proofs.write.put_sheet.Goals as goal

pub put_counted-at_deny-requires : goal.put_counted-at_deny-requires
put_counted-at_deny-requires c = record {
  text_len_bound = c.requires.small.allow;
  count_value = size_allow _ _ _ _ _ _ _
      c.requires.sizes_value;
  count_in_bounds = search rules;
}

pub put_counted-at_byuid-requires : goal.put_counted-at_byuid-requires
put_counted-at_byuid-requires c = record {
  text_len_bound = c.requires.small.deny;
  count_value = size_deny _ _ _ _ _ _ _
      c.requires.sizes_value;
  count_in_bounds = search rules;
}

pub put_counted-at_portacl-requires : goal.put_counted-at_portacl-requires
put_counted-at_portacl-requires c = record {
  text_len_bound = c.requires.small.byuid;
  count_value = size_byuid _ _ _ _ _ _ _
      c.requires.sizes_value;
  count_in_bounds = search rules;
}

pub put_counted-at_tables-requires : goal.put_counted-at_tables-requires
put_counted-at_tables-requires c = record {
  text_len_bound = c.requires.small.portacl;
  count_value = size_portacl _ _ _ _ _ _ _
      c.requires.sizes_value;
  count_in_bounds = search rules;
}

pub put-requires : goal.put-requires
put-requires c = omega (
  arith,
  c.requires.tables_in_bounds,
  c.put_counted-at_deny.ensures.next,
  c.put_counted-at_byuid.ensures.next,
  c.put_counted-at_portacl.ensures.next,
  c.put_counted-at_tables.ensures.next,
  c.put_counted-at_deny.auto.out,
  c.put_counted-at_byuid.auto.out,
  c.put_counted-at_portacl.auto.out,
  c.put_counted-at_tables.auto.out,
)

pub returns : goal.returns
returns c = let both = sheet_put _ _ _ _ _ _ _ c.requires.sizes_value _ _ _ _ _ _ _ _ _ _ _
    (c.put_counted-at_deny.ensures.next, c.put_counted-at_deny.ensures.written) (
      c.put_counted-at_byuid.ensures.next,
      c.put_counted-at_byuid.ensures.written,
    ) (c.put_counted-at_portacl.ensures.next, c.put_counted-at_portacl.ensures.written)
    (c.put_counted-at_tables.ensures.next, c.put_counted-at_tables.ensures.written) (c.put.ensures.next, c.put.ensures.written) in
    record { count = both.0; written = both.1 }
