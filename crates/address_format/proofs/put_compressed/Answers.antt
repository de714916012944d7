-- `address_format::put_compressed` meets its contract: all the groups, or those before the run, `::` and those behind it. Assumes nothing.
use mathlib.Core.Path.{sym}
use borrow.Author.Rules.{rules}
use lib.Seq.{length-take-le}
use Rattle.text.proofs.Search.{outright}
use Rattle.address_format.proofs.WriteLaws.{plain_room, plain_all, run_room, run_mark_room, run_behind_room, run_all}
use Rattle.address_format.proofs.put_compressed.Goals as goal

pub put_groups-requires : goal.put_groups-requires
put_groups-requires c = outright (search (plain_room, rules))

pub returns-then-len-lt2 : goal.returns-then-len-lt2
returns-then-len-lt2 c = let both = plain_all c.args.out.now c.args.gs.now c.args.at _ c.longest_run-run.ensures.run c.requires.1 c.requires.0
    c.if-len-lt2.true _ _ (c.put_groups.ensures.next, c.put_groups.ensures.written) in record { next = both.0; written = both.1 }

pub slice_bounds-put_groups-end : goal.slice_bounds-put_groups-end
slice_bounds-put_groups-end c = sym (length-take-le _ _ (search rules))

pub put_groups-p-requires : goal.put_groups-p-requires
put_groups-p-requires c = outright (search (run_room, rules))

pub put-q-requires : goal.put-q-requires
put-q-requires c = outright (search (run_mark_room, rules))

pub put_groups-requires-2 : goal.put_groups-requires-2
put_groups-requires-2 c = run_behind_room c.args.out.now c.args.gs.now c.args.at _ c.longest_run-run.ensures.run c.requires.1 c.requires.0
    c.if-len-lt2.false _ _ (c.put_groups-p.ensures.next, c.put_groups-p.ensures.written) _ _ (c.put-q.ensures.next, c.put-q.ensures.written)

pub returns : goal.returns
returns c = let both = run_all c.args.out.now c.args.gs.now c.args.at _ c.longest_run-run.ensures.run c.requires.1 c.requires.0
    c.if-len-lt2.false _ _ (c.put_groups-p.ensures.next, c.put_groups-p.ensures.written) _ _ (c.put-q.ensures.next, c.put-q.ensures.written) _ _
    (c.put_groups-2.ensures.next, c.put_groups-2.ensures.written) in
    record { next = both.0; written = both.1 }
