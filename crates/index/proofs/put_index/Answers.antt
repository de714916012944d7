-- `put_index` meets its contract: the counts, and the entries of both texts. Assumes nothing.
use borrow.Author.Rules.{rules}
use Rattle.index.proofs.SearchLaws.{put_index}
use Rattle.index.proofs.put_index.Goals as goal

pub returns : goal.returns
returns c = let both = put_index _ _ _ _ _ _ _ (c.put_two-start.ensures.next, c.put_two-start.ensures.written) (search rules) _ _
    (c.put_rules-middle.ensures.next, c.put_rules-middle.ensures.written) _ _ (c.put_rules.ensures.next, c.put_rules.ensures.written) in
    record { count = both.0; written = both.1 }
