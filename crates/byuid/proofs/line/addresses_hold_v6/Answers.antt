-- `byuid::line::addresses_hold_v6` meets its contract: the address of a net stands before the first `/`, and its length after it. Assumes nothing.
use borrow.Author.Rules.{rules}
use mathlib.Core.Path.{sym}
use lib.Seq.{length-take-le}
use Rattle.text.proofs.Search.{outright}
use Rattle.byuid.proofs.LineLaws.{net_v6_nothing, net_v6, range_v6}
use Rattle.byuid.proofs.line.addresses_hold_v6.Goals as goal

pub slice_bounds-read_v6-end : goal.slice_bounds-read_v6-end
slice_bounds-read_v6-end c = sym (length-take-le _ _ (search rules))

pub returns-in-None : goal.returns-in-None
returns-in-None c = outright (search (net_v6_nothing, rules))

pub returns-in-Some : goal.returns-in-Some
returns-in-Some c = outright (search (net_v6, rules))

pub returns-else-i-s : goal.returns-else-i-s
returns-else-i-s c = outright (search (range_v6, rules))
