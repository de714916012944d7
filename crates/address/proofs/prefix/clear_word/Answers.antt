-- `address::prefix::clear_word` meets its contract: under the mask stand the bits beyond the first n alone. Assumes nothing.
use Rattle.address.proofs.PrefixLaws.{clear_mask}
use Rattle.address.proofs.prefix.clear_word.Goals as goal

pub returns : goal.returns
returns c = clear_mask 64 _ _ c.requires c.mask_beyond.ensures _
