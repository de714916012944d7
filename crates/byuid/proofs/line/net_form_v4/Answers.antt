-- `byuid::line::net_form_v4` meets its contract: the length stands before the first comma, and the ports after it. Assumes nothing.
use borrow.Author.Rules.{rules}
use mathlib.Core.Path.{sym}
use lib.Seq.{length-take-le}
use Rattle.text.proofs.Search.{outright}
use Rattle.byuid.proofs.LineLaws.{form_mark, form_no_mark}
use Rattle.byuid.proofs.line.net_form_v4.Goals as goal

pub slice_bounds-len_holds_v4-end : goal.slice_bounds-len_holds_v4-end
slice_bounds-len_holds_v4-end c = sym (length-take-le _ _ (search rules))

pub returns-then-i-t : goal.returns-then-i-t
returns-then-i-t c = outright (search (form_mark, rules))

pub returns-else-i-t : goal.returns-else-i-t
returns-else-i-t c = outright (search (form_no_mark, rules))
