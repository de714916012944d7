-- `sheet::pack::put_counted` meets its contract: the count, then the text. Assumes nothing.
use Rattle.sheet.proofs.PackLaws.{put_counted}
use Rattle.sheet.proofs.pack.put_counted.Goals as goal

pub returns : goal.returns
returns c = let both = put_counted _ _ _ _ _ _ _ (c.put_count-start.ensures.next, c.put_count-start.ensures.written) (
  c.put.ensures.next,
  c.put.ensures.written,
) c.requires in
    record { next = both.0; written = both.1 }
