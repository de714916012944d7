-- `byuid::line::range_holds_v6` meets its contract: the ends stand around the first `-`, or are one number. Assumes nothing.
use borrow.Author.Rules.{rules}
use mathlib.Core.Path.{sym}
use lib.Seq.{length-take-le}
use Rattle.text.proofs.Search.{outright}
use Rattle.byuid.proofs.LineLaws.{range_mark, range_alone}
use Rattle.byuid.proofs.line.range_holds_v6.Goals as goal

pub slice_bounds-ends_hold_v6-end : goal.slice_bounds-ends_hold_v6-end
slice_bounds-ends_hold_v6-end c = sym (length-take-le _ _ (search rules))

pub returns-then-i-s : goal.returns-then-i-s
returns-then-i-s c = outright (search (range_mark, rules))

pub returns : goal.returns
returns c = outright (search (range_alone, rules))
