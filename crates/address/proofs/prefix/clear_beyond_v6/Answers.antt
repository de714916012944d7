-- `address::prefix::clear_beyond_v6` meets its contract: the bits beyond the first len lie in the low word, or are all of it and some of the
-- high word. Assumes nothing.
use mathlib.Core.Path.{sym, ◌∙◌}
use borrow.Author.Rules.{rules}
use Rattle.address.proofs.PrefixLaws.{clear_low, clear_high, set_low}
use Rattle.address.proofs.prefix.clear_beyond_v6.Goals as goal

pub returns-then-len-ge64 : goal.returns-then-len-ge64
returns-then-len-ge64 c = c.clear_word.ensures ∙ sym (clear_low 64 _ c.if-len-ge64.true c.requires _ _)

pub returns-then-low-ne0 : goal.returns-then-low-ne0
returns-then-low-ne0 c = sym (set_low 64 _ (search rules) _ _ (search rules) c.if-low-ne0.true)

pub returns : goal.returns
returns c = c.clear_word-2.ensures ∙ sym (clear_high 64 _ (search rules) _ _ (search rules) c.if-low-ne0.false)
