-- `address::prefix::clear_beyond_v4` meets its contract: under the mask stand the bits beyond the first n alone. Assumes nothing.
use Rattle.address.proofs.PrefixLaws.{clear_mask}
use Rattle.address.proofs.prefix.clear_beyond_v4.Goals as goal

pub returns : goal.returns
returns c = clear_mask 32 _ _ c.requires c.mask_beyond_v4.ensures _
