-- `authbind::put_name` meets its contract: its four parts, one after the other. Assumes nothing.
use borrow.Author.Rules.{rules}
use Rattle.text.proofs.Search.{outright}
use Rattle.authbind.proofs.NameLaws.{name_room, name_room_2, name_room_3, name_room_4, name_all}
use Rattle.authbind.proofs.put_name.Goals as goal

pub put_folder-mark-requires : goal.put_folder-mark-requires
put_folder-mark-requires c = outright (search (name_room, rules))

pub put_mark-leaf-requires : goal.put_mark-leaf-requires
put_mark-leaf-requires c = outright (search (name_room_2, rules))

pub put_address_in-number-requires : goal.put_address_in-number-requires
put_address_in-number-requires c = name_room_3 _ _ _ _ _ c.requires _ _ (c.put_folder-mark.ensures.next, c.put_folder-mark.ensures.written) _ _
    (c.put_mark-leaf.ensures.next, c.put_mark-leaf.ensures.written)

pub put_decimal-requires : goal.put_decimal-requires
put_decimal-requires c = name_room_4 _ _ _ _ _ c.requires _ _ (c.put_folder-mark.ensures.next, c.put_folder-mark.ensures.written) _ _
    (c.put_mark-leaf.ensures.next, c.put_mark-leaf.ensures.written) _ _ (
      c.put_address_in-number.ensures.next,
      c.put_address_in-number.ensures.written,
    ) _
    c.number_in.ensures

pub returns : goal.returns
returns c = let both = name_all _ _ _ _ _ c.requires _ _ (c.put_folder-mark.ensures.next, c.put_folder-mark.ensures.written) _ _
    (c.put_mark-leaf.ensures.next, c.put_mark-leaf.ensures.written) _ _ (
      c.put_address_in-number.ensures.next,
      c.put_address_in-number.ensures.written,
    ) _
    c.number_in.ensures _ _ (c.put_decimal.ensures.next, c.put_decimal.ensures.written) in record { next = both.0; written = both.1 }
