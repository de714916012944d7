-- `names::is_named_at` meets its contract. Assumes nothing.
use borrow.Author.Rules.{rules}
use mathlib.Core.Path.{sym}
use lib.Seq.{length-take-le}
use Rattle.text.proofs.Search.{outright}
use Rattle.views.proofs.NamesLaws.{at_none, at_past, at_other, at_short, at_long}
use Rattle.views.proofs.names.is_named_at.Goals as goal

pub returns-then-at-eq0 : goal.returns-then-at-eq0
returns-then-at-eq0 c = outright (search (at_none, rules))

pub returns-then-tables-at : goal.returns-then-tables-at
returns-then-tables-at c = outright (search (at_past, rules))

pub returns-then-rest-n : goal.returns-then-rest-n
returns-then-rest-n c = outright (search (at_short, rules))

pub slice_bounds-equal_fold-end : goal.slice_bounds-equal_fold-end
slice_bounds-equal_fold-end c = sym (length-take-le _ _ (search rules))

pub returns-then-is_count : goal.returns-then-is_count
returns-then-is_count c = outright (search (at_long, rules))

pub returns : goal.returns
returns c = outright (search (at_other, rules))
