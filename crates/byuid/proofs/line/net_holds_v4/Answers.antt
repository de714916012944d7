-- `byuid::line::net_holds_v4` meets its contract: the address stands before the first `/`, and the length after it. Assumes nothing.
use borrow.Author.Rules.{rules}
use mathlib.Core.Path.{sym}
use lib.Seq.{length-take-le}
use Rattle.text.proofs.Search.{outright}
use Rattle.byuid.proofs.LineLaws.{word_nothing, word_mark, net_no_mark}
use Rattle.byuid.proofs.line.net_holds_v4.Goals as goal

pub slice_bounds-read_v4-end : goal.slice_bounds-read_v4-end
slice_bounds-read_v4-end c = sym (length-take-le _ _ (search rules))

pub returns-in-None : goal.returns-in-None
returns-in-None c = outright (search (word_nothing, rules))

pub returns-in-Some : goal.returns-in-Some
returns-in-Some c = outright (search (word_mark, rules))

pub returns-else-i-s : goal.returns-else-i-s
returns-else-i-s c = outright (search (net_no_mark, rules))
