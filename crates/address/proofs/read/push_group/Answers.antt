-- `address::read::push_group` meets its contract: the bits that leave the low word enter the high one. Assumes nothing.
use borrow.Author.Rules.{rules}
use Rattle.address.proofs.WordLaws.{pushed}
use Rattle.address.proofs.read.push_group.Goals as goal

pub returns : goal.returns
returns c = pushed 48 16 _ _ _ (search rules) (search rules) (search rules)
