-- `directive::put_inserted` meets its contract, by whether an `@` is inserted. Assumes nothing.
use Rattle.expansion.proofs.TextLaws.{alone_room, alone_all, joined_room, joined_all}
use Rattle.expansion.proofs.directive.put_inserted.Goals as goal

pub put_joined-requires : goal.put_joined-requires
put_joined-requires c = joined_room _ _ _ c.directive_text-text.ensures _ c.has_at.ensures c.args.out.now c.args.at
    c.if-has_at.true _ c.name_before.ensures c.requires

pub returns-then-has_at : goal.returns-then-has_at
returns-then-has_at c = let both = joined_all _ _ _ c.directive_text-text.ensures _ c.has_at.ensures c.args.out.now c.args.at
    c.if-has_at.true _ c.name_before.ensures _ _ (c.put_joined.ensures.next, c.put_joined.ensures.written) in
    record { next = both.0; written = both.1 }

pub put_safe-requires : goal.put_safe-requires
put_safe-requires c = alone_room _ _ _ c.directive_text-text.ensures _ c.has_at.ensures c.args.out.now c.args.at c.requires c.if-has_at.false

pub returns : goal.returns
returns c = let both = alone_all _ _ _ c.directive_text-text.ensures _ c.has_at.ensures c.args.out.now c.args.at
    c.if-has_at.false _ _ (c.put_safe.ensures.next, c.put_safe.ensures.written) in record { next = both.0; written = both.1 }
