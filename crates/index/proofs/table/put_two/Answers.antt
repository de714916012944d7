-- `table::put_two` meets its contract: two numbers, one after the other. Assumes nothing.
use borrow.Author.Rules.{rules}
use Rattle.index.proofs.TableLaws.{put_two}
use Rattle.index.proofs.table.put_two.Goals as goal

pub returns : goal.returns
returns c = let both = put_two _ _ _ _ _ _ _ _ (search rules) (c.put_count-second.ensures.next, c.put_count-second.ensures.written)
    (c.put_count.ensures.next, c.put_count.ensures.written) in
    record { next = both.0; written = both.1 }
