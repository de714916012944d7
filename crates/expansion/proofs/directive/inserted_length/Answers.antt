-- `directive::inserted_length` meets its contract, by whether an `@` is inserted. Assumes nothing.
use borrow.Author.Rules.{rules}
use Rattle.expansion.proofs.TextLaws.{length_alone, length_joined}
use Rattle.expansion.proofs.directive.inserted_length.Goals as goal

pub returns-then-has_at : goal.returns-then-has_at
returns-then-has_at c = let both = length_joined _ _ _ c.directive_text-text.ensures _ c.has_at.ensures (search rules) c.if-has_at.true _
    c.name_before-name.ensures in
    record { length = both.0; within = both.1 }

pub returns : goal.returns
returns c = let both = length_alone _ _ _ c.directive_text-text.ensures _ c.has_at.ensures (search rules) c.if-has_at.false in
    record { length = both.0; within = both.1 }
