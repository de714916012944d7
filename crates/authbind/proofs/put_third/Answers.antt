-- `authbind::put_third` meets its contract: a text and the mark behind it, by the kind of address. Assumes nothing.
use borrow.Author.Rules.{rules}
use Rattle.text.proofs.Search.{outright}
use Rattle.authbind.proofs.NameLaws.{text_room, behind_room, text_all, third_v4, third_v6, third_none}
use Rattle.authbind.proofs.put_third.Goals as goal

pub put_address-colon-requires : goal.put_address-colon-requires
put_address-colon-requires c = outright (search (text_room, third_v4, rules))

pub put-requires : goal.put-requires
put-requires c = outright (search (behind_room, third_v4, rules))

pub put_unabbreviated-comma-requires : goal.put_unabbreviated-comma-requires
put_unabbreviated-comma-requires c = outright (search (text_room, third_v6, rules))

pub put-requires-in-V6 : goal.put-requires-in-V6
put-requires-in-V6 c = outright (search (behind_room, third_v6, rules))

pub returns-in-Unknown : goal.returns-in-Unknown
returns-in-Unknown c = let both = third_none _ (search rules) _ _ in record { next = both.0; written = both.1 }

pub returns-in-V4 : goal.returns-in-V4
returns-in-V4 c = let both = text_all _ _ _ _ _ (search (third_v4, rules)) c.requires _ _ (
  c.put_address-colon.ensures.next,
  c.put_address-colon.ensures.written,
) _ _
    (c.put.ensures.next, c.put.ensures.written) in record { next = both.0; written = both.1 }

pub returns-in-V6 : goal.returns-in-V6
returns-in-V6 c = let both = text_all _ _ _ _ _ (search (third_v6, rules)) c.requires _ _ (
  c.put_unabbreviated-comma.ensures.next,
  c.put_unabbreviated-comma.ensures.written,
) _ _
    (c.put-in-V6.ensures.next, c.put-in-V6.ensures.written) in record { next = both.0; written = both.1 }
