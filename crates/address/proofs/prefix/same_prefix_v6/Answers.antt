-- `address::prefix::same_prefix_v6` meets its contract: the first n bits lie in the high word, or are all of it and some of the low word.
-- Assumes nothing.
use mathlib.Core.Path.{sym, ◌∙◌}
use borrow.Author.Rules.{rules}
use Rattle.address.proofs.PrefixLaws.{same_prefix_high, same_prefix_low, same_prefix_differ}
use Rattle.address.proofs.prefix.same_prefix_v6.Goals as goal

pub returns-then-n-le64 : goal.returns-then-n-le64
returns-then-n-le64 c = c.same_word.ensures ∙ sym (same_prefix_high 64 _ c.if-n-le64.true _ _ _ _ (search rules) (search rules))

pub returns-then-a_high-b_high : goal.returns-then-a_high-b_high
returns-then-a_high-b_high c = sym (same_prefix_differ 64 _ (search rules) c.requires _ _ _ _ (search rules) (search rules) c.if-a_high-b_high.true)

pub returns : goal.returns
returns c = c.same_word-2.ensures ∙ sym (same_prefix_low 64 _ (search rules) c.requires _ _ _ _ c.if-a_high-b_high.false)
