-- `expand_line` meets its contract: the joined command stands at the front of the buffer, and is trimmed there; the
-- request is as it is held. Assumes nothing.
use mathlib.Core.Path.{sym}
use lib.Seq.{length-take-le}
use Rattle.elements.proofs.HeldLaws.{held_at_lem}
use Rattle.expansion.proofs.CallLaws.{line_within, line_short, line_gave}
use Rattle.expansion.proofs.expand_line.Goals as goal

pub slice_bounds-trim-end : goal.slice_bounds-trim-end
slice_bounds-trim-end c = let j = c.join_into-n in sym (length-take-le _ _ (line_within _ _ _ _ j.ensures.count j.ensures.written))

pub expand_trimmed-requires : goal.expand_trimmed-requires
expand_trimmed-requires c = let j = c.join_into-n in
    line_short _ _ _ _ j.ensures.count j.ensures.written _ c.trim-t.ensures
    c.requires

pub returns : goal.returns
returns c = let j = c.join_into-n in
    let a = c.args in
    let both = line_gave _ _ _ _ j.ensures.count
    j.ensures.written _ c.trim-t.ensures _ _
    (held_at_lem a.names.now a.request _ c.held-held.ensures) _
    a.out.now _ _ (c.expand_trimmed.ensures.answer, c.expand_trimmed.ensures.holds) in record { answer = both.0; holds = both.1 }
