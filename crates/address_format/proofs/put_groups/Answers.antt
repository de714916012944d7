-- `address_format::put_groups` meets its contract: the first group, and then the others with a colon before each. Assumes nothing.
use borrow.Author.Rules.{rules}
use Rattle.text.proofs.Search.{outright}
use Rattle.address_format.proofs.WriteLaws.{hex_groups_none, hex_groups_first_room, hex_groups_rest_room, hex_groups_all}
use Rattle.address_format.proofs.put_groups.Goals as goal

pub returns-then-gs-eq0 : goal.returns-then-gs-eq0
returns-then-gs-eq0 c = let a = c.args in
    let both = hex_groups_none a.out.now a.gs.now a.at c.if-gs-eq0.true in record { next = both.0; written = both.1 }

pub put_group-p-requires : goal.put_group-p-requires
put_group-p-requires c = outright (search (hex_groups_first_room, rules))

pub put_colon_groups-requires : goal.put_colon_groups-requires
put_colon_groups-requires c = outright (search (hex_groups_rest_room, rules))

pub returns : goal.returns
returns c = let both = hex_groups_all c.args.out.now c.args.gs.now c.args.at c.requires
    c.if-gs-eq0.false _ _ (c.put_group-p.ensures.next, c.put_group-p.ensures.written) _ _ (
      c.put_colon_groups.ensures.next,
      c.put_colon_groups.ensures.written,
    ) in
    record { next = both.0; written = both.1 }
