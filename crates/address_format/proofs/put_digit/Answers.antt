-- `address_format::put_digit` meets its contract. Assumes nothing.
use borrow.Author.Rules.{rules}
use Rattle.address_format.proofs.WriteLaws.{wrote_low, wrote_high}
use Rattle.address_format.proofs.put_digit.Goals as goal

pub returns-then-d-lt10 : goal.returns-then-d-lt10
returns-then-d-lt10 c = let both = wrote_low _ _ _ (search rules) (search rules) in record { next = both.0; written = both.1 }

pub returns : goal.returns
returns c = let both = wrote_high _ _ _ (search rules) (search rules) in record { next = both.0; written = both.1 }
