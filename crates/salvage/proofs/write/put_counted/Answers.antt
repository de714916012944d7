-- `salvage::write::put_counted` meets its contract: the count, then the text. Assumes nothing.
use Rattle.salvage.proofs.CallLaws.{counted_put}
use Rattle.salvage.proofs.write.put_counted.Goals as goal

pub returns : goal.returns
returns c = let both = counted_put _ _ _ _ _ _ _ _ c.requires.count_value
    c.requires.count_in_bounds
    (c.put_count-start.ensures.next, c.put_count-start.ensures.written) (c.put_made.ensures.next, c.put_made.ensures.written) in
    record { next = both.0; written = both.1 }
