-- `address_format::put_group` meets its contract: at most two digits, or the last two after them. Assumes nothing.
use borrow.Author.Rules.{rules}
use Rattle.text.proofs.Search.{outright}
use Rattle.address_format.proofs.WriteLaws.{group_pair_room, group_pair, group_room, group_third_room, group_last_room, group_four}
use Rattle.address_format.proofs.put_group.Goals as goal

pub put_pair-requires : goal.put_pair-requires
put_pair-requires c = outright (search (group_pair_room, rules))

pub returns-then-g-lt256 : goal.returns-then-g-lt256
returns-then-g-lt256 c = let both = group_pair _ _ _ c.requires
    c.if-g-lt256.true _ _ (c.put_pair.ensures.next, c.put_pair.ensures.written) in record { next = both.0; written = both.1 }

pub put_pair-p-requires : goal.put_pair-p-requires
put_pair-p-requires c = search (group_room, rules)

pub put_digit-q-requires : goal.put_digit-q-requires
put_digit-q-requires c = search (group_third_room, rules)

pub put_digit-requires : goal.put_digit-requires
put_digit-requires c = (
  group_last_room _ _ _ c.requires c.if-g-lt256.false _ _ (c.put_pair-p.ensures.next, c.put_pair-p.ensures.written) _ _
      (c.put_digit-q.ensures.next, c.put_digit-q.ensures.written),
  search rules,
)

pub returns : goal.returns
returns c = let both = group_four _ _ _ c.requires c.if-g-lt256.false _ _ (c.put_pair-p.ensures.next, c.put_pair-p.ensures.written) _ _
    (c.put_digit-q.ensures.next, c.put_digit-q.ensures.written) _ _ (c.put_digit.ensures.next, c.put_digit.ensures.written) in
    record { next = both.0; written = both.1 }
