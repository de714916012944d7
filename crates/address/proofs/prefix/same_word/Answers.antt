-- `address::prefix::same_word` meets its contract: under the mask stand the first n bits alone. Assumes nothing.
use borrow.Author.Rules.{rules}
use Rattle.address.proofs.PrefixLaws.{same_prefix_mask}
use Rattle.address.proofs.prefix.same_word.Goals as goal

pub returns : goal.returns
returns c = same_prefix_mask 64 _ _ c.requires c.mask_beyond-m.ensures _ _ (search rules) (search rules)
