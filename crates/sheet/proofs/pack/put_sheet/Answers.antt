-- `sheet::pack::put_sheet` meets its contract: four texts, each after its count, and the tables. Assumes nothing.
use Rattle.sheet.proofs.PackLaws.{put_sheet}
use Rattle.sheet.proofs.pack.put_sheet.Goals as goal

pub returns : goal.returns
returns c = let both = put_sheet _ _ _ _ _ _ _ _ _ _ _ _ _ _ _ _ (c.put_counted-at_deny.ensures.next, c.put_counted-at_deny.ensures.written)
    (c.put_counted-at_byuid.ensures.next, c.put_counted-at_byuid.ensures.written) (
      c.put_counted-at_portacl.ensures.next,
      c.put_counted-at_portacl.ensures.written,
    ) (c.put_counted-at_tables.ensures.next, c.put_counted-at_tables.ensures.written)
    (c.put.ensures.next, c.put.ensures.written) in record { count = both.0; written = both.1 }
