-- `tidy::same::daemons_of` meets its contract: up to the first separator. Assumes nothing.
use borrow.Author.Rules.{rules}
use mathlib.Core.Path.{sym}
use lib.Seq.{length-take-le}
use Rattle.text.proofs.Search.{outright}
use Rattle.tidy.proofs.ListLaws.{daemons_part_lem}
use Rattle.tidy.proofs.same.daemons_of.Goals as goal

pub slice_bounds-result-end : goal.slice_bounds-result-end
slice_bounds-result-end c = sym (length-take-le _ _ c.separator-i.ensures.within)

pub returns : goal.returns
returns c = outright (search (daemons_part_lem, rules))
