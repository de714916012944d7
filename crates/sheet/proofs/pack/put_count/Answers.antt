-- `sheet::pack::put_count` meets its contract: the four digits of base 256. Assumes nothing.
use Rattle.sheet.proofs.PackLaws.{put_count}
use Rattle.sheet.proofs.pack.put_count.Goals as goal

pub returns : goal.returns
returns c = let both = put_count _ _ _ c.args.n _ (c.put.ensures.next, c.put.ensures.written) in record { next = both.0; written = both.1 }
