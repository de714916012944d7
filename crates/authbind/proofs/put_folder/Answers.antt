-- `authbind::put_folder` meets its contract, by the file. Assumes nothing.
use borrow.Author.Rules.{rules}
use Rattle.text.proofs.Search.{outright}
use Rattle.authbind.proofs.NameLaws.{port_room, address_room, third_test_room, uid_room, port_folder, address_folder, third_folder, uid_folder}
use Rattle.authbind.proofs.put_folder.Goals as goal

pub put-requires : goal.put-requires
put-requires c = outright (search (port_room, rules))

pub put-requires-in-Address : goal.put-requires-in-Address
put-requires-in-Address c = outright (search (address_room, rules))

pub put-requires-in-Third : goal.put-requires-in-Third
put-requires-in-Third c = outright (search (third_test_room, rules))

pub put-requires-in-Uid : goal.put-requires-in-Uid
put-requires-in-Uid c = outright (search (uid_room, rules))

pub returns-in-Port : goal.returns-in-Port
returns-in-Port c = let both = port_folder c.args.file _ _ _ (search rules) (c.put.ensures.next, c.put.ensures.written) in
    record { next = both.0; written = both.1 }

pub returns-in-Address : goal.returns-in-Address
returns-in-Address c = let both = address_folder c.args.file _ _ _ (search rules)
    (c.put-in-Address.ensures.next, c.put-in-Address.ensures.written) in record { next = both.0; written = both.1 }

pub returns-in-Third : goal.returns-in-Third
returns-in-Third c = let both = third_folder c.args.file _ _ _ (search rules) (c.put-in-Third.ensures.next, c.put-in-Third.ensures.written) in
    record { next = both.0; written = both.1 }

pub returns-in-Uid : goal.returns-in-Uid
returns-in-Uid c = let both = uid_folder c.args.file _ _ _ (search rules) (c.put-in-Uid.ensures.next, c.put-in-Uid.ensures.written) in
    record { next = both.0; written = both.1 }
