-- `tidy::same::clients_of` meets its contract: up to the second separator. Assumes nothing.
use borrow.Author.Rules.{rules}
use mathlib.Core.Path.{sym}
use lib.Seq.{length-take-le}
use Rattle.text.proofs.Search.{outright}
use Rattle.tidy.proofs.ListLaws.{clients_part_lem}
use Rattle.tidy.proofs.same.clients_of.Goals as goal

pub slice_bounds-result-end : goal.slice_bounds-result-end
slice_bounds-result-end c = sym (length-take-le _ _ c.separator-j.ensures.within)

pub returns : goal.returns
returns c = outright (search (clients_part_lem, rules))
