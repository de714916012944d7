-- `address::prefix::leading_ones_v4` meets its contract: all bits but those beyond the first n. Assumes nothing.
use Rattle.address.proofs.PrefixLaws.{leading_ones}
use Rattle.address.proofs.prefix.leading_ones_v4.Goals as goal

pub returns : goal.returns
returns c = leading_ones 32 _ _ c.requires c.mask_beyond_v4.ensures
