-- `sheet::upgrade::put_upgraded` meets its contract: the sheet, then two zero bytes. Assumes nothing.
use Rattle.sheet.proofs.UpgradeLaws.{put_upgraded}
use Rattle.sheet.proofs.upgrade.put_upgraded.Goals as goal

pub returns : goal.returns
returns c = let both = put_upgraded _ _ _ _ _ _ (c.put-end.ensures.next, c.put-end.ensures.written) (c.put.ensures.next, c.put.ensures.written) in
    record { count = both.0; written = both.1 }
