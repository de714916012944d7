-- `authbind::put_address_in` meets its contract, by the file. Assumes nothing.
use borrow.Author.Rules.{rules}
use Rattle.text.proofs.Search.{outright}
use Rattle.authbind.proofs.NameLaws.{address_in_room, behind_room, text_all, in_address, third_in_room, third_in, in_port, in_uid}
use Rattle.authbind.proofs.put_address_in.Goals as goal

pub put_address-comma-requires : goal.put_address-comma-requires
put_address-comma-requires c = outright (search (address_in_room, rules))

pub put-requires : goal.put-requires
put-requires c = behind_room _ _ _ _ _ (in_address _ _ (search rules)) c.requires _ _ (
  c.put_address-comma.ensures.next,
  c.put_address-comma.ensures.written,
)

pub put_third-requires : goal.put_third-requires
put_third-requires c = outright (search (third_in_room, rules))

pub returns-in-Port : goal.returns-in-Port
returns-in-Port c = let both = in_port _ _ (search rules) _ _ in record { next = both.0; written = both.1 }

pub returns-in-Address : goal.returns-in-Address
returns-in-Address c = let both = text_all _ _ _ _ _ (in_address _ _ (search rules)) c.requires _ _ (
  c.put_address-comma.ensures.next,
  c.put_address-comma.ensures.written,
) _ _
    (c.put.ensures.next, c.put.ensures.written) in record { next = both.0; written = both.1 }

pub returns-in-Third : goal.returns-in-Third
returns-in-Third c = let both = third_in _ _ _ _ (search rules) _ _ (c.put_third.ensures.next, c.put_third.ensures.written) in
    record { next = both.0; written = both.1 }

pub returns-in-Uid : goal.returns-in-Uid
returns-in-Uid c = let both = in_uid _ _ (search rules) _ _ in record { next = both.0; written = both.1 }
