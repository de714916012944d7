-- `address::prefix::same_prefix_v4` meets its contract: under the mask stand the first n bits alone. Assumes nothing.
use borrow.Author.Rules.{rules}
use Rattle.address.proofs.PrefixLaws.{same_prefix_mask}
use Rattle.address.proofs.prefix.same_prefix_v4.Goals as goal

pub returns : goal.returns
returns c = same_prefix_mask 32 _ _ c.requires c.mask_beyond_v4-m.ensures _ _ (search rules) (search rules)
