-- `bit` meets its contract. Assumes nothing.
use borrow.Author.Rules.{rules}
use Rattle.views.proofs.BitLaws.{bit_far, bit_marks}
use Rattle.views.proofs.bit.Goals as goal

pub returns-then-i-ge64 : goal.returns-then-i-ge64
returns-then-i-ge64 c = bit_far _ c.if-i-ge64.true

pub returns : goal.returns
returns c = bit_marks _ (search rules)
