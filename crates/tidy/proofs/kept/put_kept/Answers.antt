use borrow.Author.Rules.{rules}
use Rattle.text.proofs.Search.{outright}
use Rattle.tidy.proofs.KeptLaws.{keeping_start, keeping_number, keeping_below, keeping_room, keeping_more, keeping_end}
use Rattle.tidy.proofs.kept.put_kept.Goals as goal

pub loop-i-init : goal.loop-i-init
loop-i-init c = outright (search (keeping_start, rules))

pub slice_bounds-put_line-end : goal.slice_bounds-put_line-end
slice_bounds-put_line-end c = outright (search (keeping_below, rules))

pub put_line-place-requires : goal.put_line-place-requires
put_line-place-requires c = record { n_bound = search (keeping_number, rules); s_in_bounds = search (keeping_room, rules) }

pub loop-i-preserved : goal.loop-i-preserved
loop-i-preserved c = outright (search (keeping_more, rules))

pub returns : goal.returns
returns c = outright (search (keeping_end, rules))
