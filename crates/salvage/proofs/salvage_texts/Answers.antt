-- `salvage::salvage_texts` meets its contract: section five, then what is written. Assumes nothing.
use borrow.Author.Rules.{rules}
use Rattle.text.proofs.Search.{outright}
use Rattle.salvage.proofs.CallLaws.{five_few, five_short, parts_refused, parts_done}
use Rattle.salvage.proofs.salvage_texts.Goals as goal

pub naming_notes-notes-requires : goal.naming_notes-notes-requires
naming_notes-notes-requires c = outright (search (five_few, rules))

pub write_both-requires : goal.write_both-requires
write_both-requires c = record { small = search rules; tables_len_bound = search (five_short, rules) }

pub returns-in_err-check_five : goal.returns-in_err-check_five
returns-in_err-check_five c = let both = parts_refused c.args.allow.now c.args.deny.now c.args.byuid.now c.args.portacl.now _ c.args.out.now
    c.args.list.now _ c.check_five.ensures _ c.in_err-check_five.was in
    record { answer = search rules; sheet = both.1.0; changes = both.1.1 }

pub returns : goal.returns
returns c = let both = parts_done _ _ _ _ _ c.args.out.now
    c.args.list.now _ c.check_five.ensures
    (search rules) _ c.naming_notes-notes.ensures _ _ _
    (c.write_both.ensures.answer, (c.write_both.ensures.sheet, c.write_both.ensures.changes)) in
    record { answer = both.0; sheet = both.1.0; changes = both.1.1 }
