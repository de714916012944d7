-- `sheet::upgrade::upgrade` meets its contract: the check, then room, then the sheet. Assumes nothing.
use borrow.Author.Rules.{rules}
use Rattle.sheet.proofs.UpgradeLaws.{upgrade_refused, upgrade_no_room, upgrade_count}
use Rattle.sheet.proofs.upgrade.upgrade.Goals as goal

pub returns-then-out-sheet : goal.returns-then-out-sheet
returns-then-out-sheet c = let both = upgrade_no_room _ _ c.check_four.ensures (search rules) _ c.if-out-sheet.true _ c.placeless.ensures in
    record { answer = both.0; holds = both.1 }

pub returns-in_err-check_four : goal.returns-in_err-check_four
returns-in_err-check_four c = let both = upgrade_refused _ _ c.check_four.ensures _ c.in_err-check_four.was c.args.out.now in
    record { answer = search rules; holds = both.1 }

pub returns : goal.returns
returns c = let both = upgrade_count _ _ c.check_four.ensures (search rules) _ _ _ c.if-out-sheet.false
    (c.put_upgraded.ensures.count, c.put_upgraded.ensures.written) in
    record { answer = both.0; holds = both.1 }
