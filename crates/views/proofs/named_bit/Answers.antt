-- `named_bit` meets its contract. Assumes nothing.
use borrow.Author.Rules.{rules}
use Rattle.text.proofs.Search.{outright}
use Rattle.views.proofs.RowLaws.{bit_missing, bit_placed}
use Rattle.views.proofs.named_bit.Goals as goal

pub returns-in-None : goal.returns-in-None
returns-in-None c = outright (search (bit_missing, rules))

pub returns-in-Some : goal.returns-in-Some
returns-in-Some c = outright (search (bit_placed, rules))
