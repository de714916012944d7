-- `element::client_halves` meets its contract: the user half is looked at where the host half matches. Assumes nothing.
use mathlib.Core.Path.{sym}
use native.Mathlib.Omega.{arith}
use lib.Seq.{length-take-le}
use borrow.Author.Rules.{rules}
use Rattle.text.proofs.Search.{outright}
use Rattle.elements.proofs.SeenLaws.{client_kind_matched, client_kind_missed}
use Rattle.elements.proofs.element.client_halves.Goals as goal

pub slice_bounds-t-end : goal.slice_bounds-t-end
slice_bounds-t-end c = sym (length-take-le _ _ (omega arith))

pub returns-then-host : goal.returns-then-host
returns-then-host c = outright (search (client_kind_matched, rules))

pub returns : goal.returns
returns c = outright (search (client_kind_missed, rules))
