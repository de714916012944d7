-- `address::read::read_compressed` meets its contract: each side of `::` is read by itself. Assumes nothing.
use mathlib.Core.Bool.{true, false}
use mathlib.Core.Path.{sym, ◌∙◌}
use lib.Seq.{length-take-le}
use borrow.Author.Rules.{rules}
use Rattle.text.proofs.Search.{outright}
use Rattle.address.proofs.ReadV6Laws.{sides_left, sides_right, groups_fit_lem, sides_join}
use Rattle.address.proofs.read.read_compressed.Goals as goal

pub slice_bounds-read_groups-end : goal.slice_bounds-read_groups-end
slice_bounds-read_groups-end c = sym (length-take-le _ _ (search rules))

pub join-requires : goal.join-requires
join-requires c = let l = groups_fit_lem false _ _ _ (sym c.read_groups-left.ensures ∙ c.in_ok-a.was) in
    (l.0, (l.1, groups_fit_lem true _ _ _ (sym c.read_groups-right.ensures ∙ c.in_ok-b.was)))

pub returns-in_err-a : goal.returns-in_err-a
returns-in_err-a c = outright (search (sides_left, rules))

pub returns-in_err-b : goal.returns-in_err-b
returns-in_err-b c = outright (search (sides_right, rules))

pub returns : goal.returns
returns c = sides_join _ _ _ c.read_groups-left.ensures _ c.read_groups-right.ensures _ _ c.in_ok-a.was _ _ c.in_ok-b.was _ c.join.ensures
