-- `byuid::line::comma_form_v6` meets its contract: the addresses stand before the first comma, and the ports after it. Assumes nothing.
use borrow.Author.Rules.{rules}
use mathlib.Core.Path.{sym}
use lib.Seq.{length-take-le}
use Rattle.text.proofs.Search.{outright}
use Rattle.byuid.proofs.LineLaws.{comma_mark, comma_no_mark}
use Rattle.byuid.proofs.line.comma_form_v6.Goals as goal

pub slice_bounds-addresses_hold_v6-end : goal.slice_bounds-addresses_hold_v6-end
slice_bounds-addresses_hold_v6-end c = sym (length-take-le _ _ (search rules))

pub returns-then-i-l : goal.returns-then-i-l
returns-then-i-l c = outright (search (comma_mark, rules))

pub returns-else-i-l : goal.returns-else-i-l
returns-else-i-l c = outright (search (comma_no_mark, rules))
