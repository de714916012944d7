-- `salvage::write::put_list` meets its contract: the changes of each section, one after the other. Assumes nothing.
use Rattle.salvage.proofs.CallLaws.{list_room, list_room_2, list_room_3, list_room_4, list_put}
use Rattle.salvage.proofs.write.put_list.Goals as goal

pub put_made-of_deny-requires : goal.put_made-of_deny-requires
put_made-of_deny-requires c = record {
  text_len_bound = c.requires.small.allow;
  text_in_bounds = list_room _ _ _ _ _ _
      c.args.out.now
      c.requires.tables_in_bounds;
}

pub put_made-of_byuid-requires : goal.put_made-of_byuid-requires
put_made-of_byuid-requires c = record {
  text_len_bound = c.requires.small.deny;
  text_in_bounds = list_room_2 _ _ _ _ _ _ _
      c.requires.tables_in_bounds _ _
      (c.put_made-of_deny.ensures.next, c.put_made-of_deny.ensures.written);
}

pub put_made-of_portacl-requires : goal.put_made-of_portacl-requires
put_made-of_portacl-requires c = record {
  text_len_bound = c.requires.small.byuid;
  text_in_bounds = list_room_3 _ _ _ _ _ _ _ c.requires.tables_in_bounds _ _ (c.put_made-of_deny.ensures.next, c.put_made-of_deny.ensures.written) _ _
      (c.put_made-of_byuid.ensures.next, c.put_made-of_byuid.ensures.written);
}

pub put_made-requires : goal.put_made-requires
put_made-requires c = record {
  text_len_bound = c.requires.small.portacl;
  text_in_bounds = list_room_4 _ _ _ _ _ _ _
      c.requires.tables_in_bounds _ _ (c.put_made-of_deny.ensures.next, c.put_made-of_deny.ensures.written) _ _
      (c.put_made-of_byuid.ensures.next, c.put_made-of_byuid.ensures.written) _ _ (
        c.put_made-of_portacl.ensures.next,
        c.put_made-of_portacl.ensures.written,
      );
}

pub returns : goal.returns
returns c = let both = list_put _ _ _ _ _ _ _ c.requires.tables_in_bounds _ _
    (c.put_made-of_deny.ensures.next, c.put_made-of_deny.ensures.written) _ _
    (c.put_made-of_byuid.ensures.next, c.put_made-of_byuid.ensures.written) _ _
    (c.put_made-of_portacl.ensures.next, c.put_made-of_portacl.ensures.written) _ _ (c.put_made.ensures.next, c.put_made.ensures.written) in
    record { count = both.0; written = both.1 }
