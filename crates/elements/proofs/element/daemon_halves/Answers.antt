-- `element::daemon_halves` meets its contract: both halves are read once. Assumes nothing.
use mathlib.Core.Path.{sym}
use native.Mathlib.Omega.{arith}
use lib.Seq.{length-take-le}
use borrow.Author.Rules.{rules}
use Rattle.text.proofs.Search.{outright}
use Rattle.elements.proofs.SeenLaws.{daemon_kind_halves}
use Rattle.elements.proofs.element.daemon_halves.Goals as goal

pub slice_bounds-t-end : goal.slice_bounds-t-end
slice_bounds-t-end c = sym (length-take-le _ _ (omega arith))

pub returns : goal.returns
returns c = outright (search (daemon_kind_halves, rules))
