-- `tidy::same::same_list` meets its contract: the invariant: what is left of both decides. The measure is what is left of the first. Assumes nothing.
use mathlib.Core.Path.{◌≡◌}
use lib.ListN.{length}
use Rattle.lines.specs.Parts.{words}
use Rattle.tidy.specs.Tidy.{same_list}
use Rattle.tidy.proofs.same.same_list.Given as goal

abbrev pub invariant-loop-s : goal.invariant-loop-s
invariant-loop-s l = same_list (words l.a) (words l.b) ≡ same_list (words l.s) (words l.t)

abbrev pub decreases-loop-s : goal.decreases-loop-s
decreases-loop-s l = length l.s
