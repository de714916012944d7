-- `address_format::put_pair` meets its contract: one digit, or two. Assumes nothing.
use borrow.Author.Rules.{rules}
use Rattle.text.proofs.Search.{outright}
use Rattle.address_format.proofs.WriteLaws.{pair_room, pair_one, pair_last_room, pair_two}
use Rattle.address_format.proofs.put_pair.Goals as goal

pub put_digit-requires : goal.put_digit-requires
put_digit-requires c = outright (search (pair_room, rules))

pub returns-then-n-lt16 : goal.returns-then-n-lt16
returns-then-n-lt16 c = let both = pair_one _ _ _ c.requires.1 c.requires.0 (search rules) _ _ (
  c.put_digit.ensures.next,
  c.put_digit.ensures.written,
) in
    record { next = both.0; written = both.1 }

pub put_digit-p-requires : goal.put_digit-p-requires
put_digit-p-requires c = search (pair_room, rules)

pub put_digit-requires-2 : goal.put_digit-requires-2
put_digit-requires-2 c = search (pair_last_room, rules)

pub returns : goal.returns
returns c = let both = pair_two _ _ _ c.requires.1 c.requires.0 (search rules) _ _ (c.put_digit-p.ensures.next, c.put_digit-p.ensures.written)
    _ _ (c.put_digit-2.ensures.next, c.put_digit-2.ensures.written) in
    record { next = both.0; written = both.1 }
