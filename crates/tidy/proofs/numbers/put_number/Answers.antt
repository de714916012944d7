-- `tidy::numbers::put_number` meets its contract: the four digits of base 256. Assumes nothing.
use Rattle.tidy.proofs.NumberLaws.{put_number}
use Rattle.tidy.proofs.numbers.put_number.Goals as goal

pub returns : goal.returns
returns c = let both = put_number _ _ _ c.args.n _ (c.put.ensures.next, c.put.ensures.written) in record { next = both.0; written = both.1 }
