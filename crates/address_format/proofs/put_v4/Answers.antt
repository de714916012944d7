-- `address_format::put_v4` meets its contract: the four fields, one after the other. Assumes nothing.
use borrow.Author.Rules.{rules}
use Rattle.text.proofs.Search.{outright}
use Rattle.address_format.proofs.WriteLaws.{fields_room, fields_room_2, fields_room_3, fields_room_4, fields_all}
use Rattle.address_format.proofs.put_v4.Goals as goal

pub put_decimal-p-requires : goal.put_decimal-p-requires
put_decimal-p-requires c = outright (search (fields_room, rules))

pub put_next_field-q-requires : goal.put_next_field-q-requires
put_next_field-q-requires c = outright (search (fields_room_2, rules))

pub put_next_field-s-requires : goal.put_next_field-s-requires
put_next_field-s-requires c = fields_room_3 _ _ _ (search rules) c.requires _ _ (
  c.put_decimal-p.ensures.next,
  c.put_decimal-p.ensures.written,
) _ _ (c.put_next_field-q.ensures.next, c.put_next_field-q.ensures.written)

pub put_next_field-requires : goal.put_next_field-requires
put_next_field-requires c = fields_room_4 _ _ _ (search rules) c.requires _ _ (c.put_decimal-p.ensures.next, c.put_decimal-p.ensures.written)
    _ _ (c.put_next_field-q.ensures.next, c.put_next_field-q.ensures.written) _ _ (
      c.put_next_field-s.ensures.next,
      c.put_next_field-s.ensures.written,
    )

pub returns : goal.returns
returns c = let both = fields_all _ _ _ (search rules)
    c.requires _ _ (c.put_decimal-p.ensures.next, c.put_decimal-p.ensures.written) _ _ (
      c.put_next_field-q.ensures.next,
      c.put_next_field-q.ensures.written,
    ) _ _ (c.put_next_field-s.ensures.next, c.put_next_field-s.ensures.written) _ _
    (c.put_next_field.ensures.next, c.put_next_field.ensures.written) in
    record { next = both.0; written = both.1 }
