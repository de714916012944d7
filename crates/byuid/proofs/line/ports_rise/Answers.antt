-- `byuid::line::ports_rise` meets its contract: the ends stand around the first comma. Assumes nothing.
use borrow.Author.Rules.{rules}
use mathlib.Core.Path.{sym}
use lib.Seq.{length-take-le}
use Rattle.text.proofs.Search.{outright}
use Rattle.byuid.proofs.LineLaws.{ports_no_mark, ports_no_min, ports_no_max, ports_two}
use Rattle.byuid.proofs.line.ports_rise.Goals as goal

pub slice_bounds-read_decimal-end : goal.slice_bounds-read_decimal-end
slice_bounds-read_decimal-end c = sym (length-take-le _ _ (search rules))

pub returns-in-None : goal.returns-in-None
returns-in-None c = outright (search (ports_no_min, rules))

pub returns-in-None-read_decimal : goal.returns-in-None-read_decimal
returns-in-None-read_decimal c = outright (search (ports_no_max, rules))

pub returns-in-Some-read_decimal : goal.returns-in-Some-read_decimal
returns-in-Some-read_decimal c = outright (search (ports_two, rules))

pub returns-else-i-s : goal.returns-else-i-s
returns-else-i-s c = outright (search (ports_no_mark, rules))
