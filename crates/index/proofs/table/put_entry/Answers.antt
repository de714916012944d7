-- `table::put_entry` meets its contract: four ranges, one after the other. Assumes nothing.
use borrow.Author.Rules.{rules}
use Rattle.index.proofs.TableLaws.{put_entry}
use Rattle.index.proofs.table.put_entry.Goals as goal

pub returns : goal.returns
returns c =
    let both = put_entry _ _ _ _ _ _ _ _ _ _ _ _ _ _ _ _ _ _ (search rules) (c.put_two-rule.ensures.next, c.put_two-rule.ensures.written)
    (c.put_two-daemons.ensures.next, c.put_two-daemons.ensures.written) (c.put_two-clients.ensures.next, c.put_two-clients.ensures.written)
    (c.put_two.ensures.next, c.put_two.ensures.written) in
    record { next = both.0; written = both.1 }
