-- `salvage::piece::put_entry` meets its contract. Assumes nothing.
use borrow.Author.Rules.{rules}
use Rattle.text.proofs.Search.{outright}
use Rattle.salvage.proofs.PieceLaws.{entry_none, first_room, first_all, comma_room, entry_room, entry_all}
use Rattle.salvage.proofs.piece.put_entry.Goals as goal

pub returns-then-bad : goal.returns-then-bad
returns-then-bad c = let both = entry_none _ _ _ _ _ (search rules) in record { next = both.0; written = both.1 }

pub put-requires : goal.put-requires
put-requires c = outright (search (first_room, rules))

pub returns-then-alone : goal.returns-then-alone
returns-then-alone c = let both = first_all _ _ _ _ _ (search rules) (search rules) _ _ (search rules) in record { next = both.0; written = both.1 }

pub put-start-requires : goal.put-start-requires
put-start-requires c = outright (search (comma_room, rules))

pub put-requires-2 : goal.put-requires-2
put-requires-2 c = outright (search (entry_room, rules))

pub returns : goal.returns
returns c = let both = entry_all _ _ _ _ _ c.if-bad.false
    c.if-alone.false
    c.requires _ _
    (c.put-start.ensures.next, c.put-start.ensures.written) _ _ (c.put-2.ensures.next, c.put-2.ensures.written) in
    record { next = both.0; written = both.1 }
