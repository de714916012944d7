use borrow.Author.Rules.{rules}
use mathlib.Core.Path.{refl}
use native.Mathlib.Omega.{arith}
use Rattle.text.proofs.Search.{outright}
use Rattle.views.proofs.DeepLaws.{raised_start, raised_end, raised_cut, raised_place, raised_more}
use Rattle.views.proofs.notes_above.Goals as goal

pub loop-i-init : goal.loop-i-init
loop-i-init c = let known = c.type_inv.tables in
    raised_start _ _ _ c.table_count-n.ensures (omega (arith, known 0)) (omega (arith, known 1)) _ c.after_count-rest.ensures

pub returns-then-span : goal.returns-then-span
returns-then-span c = outright (search (raised_cut, rules))

pub bounds-notes-k : goal.bounds-notes-k
bounds-notes-k c = outright (search (raised_place, rules))

pub bounds-notes-k-in-loop-i : goal.bounds-notes-k-in-loop-i
bounds-notes-k-in-loop-i c = outright (search (raised_place, rules))

pub loop-i-preserved : goal.loop-i-preserved
loop-i-preserved c = raised_more _ _ _ _ _ _ c.loop-i.invariant c.loop-i-test.true _ c.entry_span-span.ensures c.if-span.false
    _ c.entry_text.ensures _ c.leads.ensures _ refl
    _ c.mark.ensures _ c.after_entry-next.ensures

pub returns : goal.returns
returns c = outright (search (raised_end, rules))
