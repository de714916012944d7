-- `address_format::groups` meets its contract: each half has four groups. Assumes nothing.
use borrow.Author.Rules.{rules}
use Rattle.address_format.proofs.WriteLaws.{to_digits_halves}
use Rattle.address_format.proofs.groups.Goals as goal

pub returns : goal.returns
returns c = to_digits_halves _ _ (search rules) (search rules)
