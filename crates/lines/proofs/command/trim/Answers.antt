-- `command::trim` meets its contract: the part between the blanks at either end. Assumes nothing.
use mathlib.Core.Path.{sym}
use borrow.Author.Rules.{rules}
use lib.Seq.{length-take-le}
use Rattle.text.proofs.Search.{outright}
use Rattle.lines.proofs.CommandLaws.{trim_part}
use Rattle.lines.proofs.command.trim.Goals as goal

pub slice_bounds-result-end : goal.slice_bounds-result-end
slice_bounds-result-end c = sym (length-take-le _ _ c.unblanked_length-n.ensures.within)

pub returns : goal.returns
returns c = outright (search (trim_part, rules))
