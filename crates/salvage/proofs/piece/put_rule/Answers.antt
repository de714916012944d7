-- `salvage::piece::put_rule` meets its contract. Assumes nothing.
use borrow.Author.Rules.{rules}
use Rattle.text.proofs.Search.{outright}
use Rattle.salvage.proofs.PieceLaws.{bad_room, bad_all, good_room, good_all}
use Rattle.salvage.proofs.piece.put_rule.Goals as goal

pub put_ended-requires : goal.put_ended-requires
put_ended-requires c = outright (search (bad_room, rules))

pub returns-then-bad : goal.returns-then-bad
returns-then-bad c = let both = bad_all _ _ _ _ _ (search rules) _ _ (search rules) in record { next = both.0; written = both.1 }

pub put_ended-requires-2 : goal.put_ended-requires-2
put_ended-requires-2 c = outright (search (good_room, rules))

pub returns : goal.returns
returns c = let both = good_all _ _ _ _ _ (search rules) _ _ (search rules) in record { next = both.0; written = both.1 }
