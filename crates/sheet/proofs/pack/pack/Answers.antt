-- `sheet::pack::pack` meets its contract: the checks, then room, then the sheet. Assumes nothing.
use borrow.Author.Rules.{rules}
use native.Mathlib.Omega.{arith}
use Rattle.sheet.proofs.PackLaws.{sheet_fits, pack_refused, pack_no_room, pack_count}
use Rattle.sheet.proofs.pack.pack.Goals as goal

pub overflow_add-allow-2 : goal.overflow_add-allow-2
overflow_add-allow-2 c = let fits = sheet_fits _ _ _ _ _ _ c.check_texts.ensures (search rules) in omega (arith, fits)

pub overflow_add-allow-3 : goal.overflow_add-allow-3
overflow_add-allow-3 c = let fits = sheet_fits _ _ _ _ _ _ c.check_texts.ensures (search rules) in omega (arith, fits)

pub overflow_add-allow-4 : goal.overflow_add-allow-4
overflow_add-allow-4 c = let fits = sheet_fits _ _ _ _ _ _ c.check_texts.ensures (search rules) in omega (arith, fits)

pub overflow_add-allow-5 : goal.overflow_add-allow-5
overflow_add-allow-5 c = let fits = sheet_fits _ _ _ _ _ _ c.check_texts.ensures (search rules) in omega (arith, fits)

pub returns-then-out-allow : goal.returns-then-out-allow
returns-then-out-allow c = let both = pack_no_room _ _ _ _ _ _ c.check_texts.ensures (search rules) _ c.if-out-allow.true _ c.placeless.ensures in
    record { answer = both.0; holds = both.1 }

pub returns-in_err-check_texts : goal.returns-in_err-check_texts
returns-in_err-check_texts c = let both = pack_refused _ _ _ _ _ _ c.check_texts.ensures _ c.in_err-check_texts.was c.args.out.now in
    record { answer = search rules; holds = both.1 }

pub returns : goal.returns
returns c = let both = pack_count _ _ _ _ _ _ c.check_texts.ensures (search rules) _ _ _ c.if-out-allow.false
    (c.put_sheet.ensures.count, c.put_sheet.ensures.written) in
    record { answer = both.0; holds = both.1 }
