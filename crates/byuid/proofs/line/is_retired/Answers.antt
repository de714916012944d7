-- `byuid::line::is_retired` meets its contract: the net stands before the first colon, and the ports after it. Assumes nothing.
use borrow.Author.Rules.{rules}
use mathlib.Core.Path.{sym}
use lib.Seq.{length-take-le}
use Rattle.text.proofs.Search.{outright}
use Rattle.byuid.proofs.LineLaws.{retired_no_mark, retired_no_net, retired_ports}
use Rattle.byuid.proofs.line.is_retired.Goals as goal

pub slice_bounds-net_holds_v4-end : goal.slice_bounds-net_holds_v4-end
slice_bounds-net_holds_v4-end c = sym (length-take-le _ _ (search rules))

pub returns-in-None : goal.returns-in-None
returns-in-None c = outright (search (retired_no_net, rules))

pub returns-in-Some : goal.returns-in-Some
returns-in-Some c = outright (search (retired_ports, rules))

pub returns-else-i-l : goal.returns-else-i-l
returns-else-i-l c = outright (search (retired_no_mark, rules))
