-- `byuid::line::ports_hold` meets its contract: the ends stand around the first `-`, or are one number. Assumes nothing.
use borrow.Author.Rules.{rules}
use mathlib.Core.Path.{sym}
use lib.Seq.{length-take-le}
use Rattle.text.proofs.Search.{outright}
use Rattle.byuid.proofs.LineLaws.{range_mark, one_nothing, one_value}
use Rattle.byuid.proofs.line.ports_hold.Goals as goal

pub slice_bounds-port_ends_hold-end : goal.slice_bounds-port_ends_hold-end
slice_bounds-port_ends_hold-end c = sym (length-take-le _ _ (search rules))

pub returns-then-hyphen-s : goal.returns-then-hyphen-s
returns-then-hyphen-s c = outright (search (range_mark, rules))

pub returns-in_err-n : goal.returns-in_err-n
returns-in_err-n c = outright (search (one_nothing, rules))

pub returns : goal.returns
returns c = outright (search (one_value, rules))
