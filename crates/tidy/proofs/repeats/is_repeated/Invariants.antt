-- `tidy::repeats::is_repeated` meets its contract: the invariant is Seeking: the rest of the chain decides. The measure is what may be left of it. Assumes
-- nothing.
use Rattle.tidy.proofs.RepeatLaws.{Seeking}
use Rattle.tidy.proofs.repeats.is_repeated.Given as goal

abbrev pub invariant-loop-left : goal.invariant-loop-left
invariant-loop-left l = Seeking l.text l.links l.t l.first l.at l.left

abbrev pub decreases-loop-left : goal.decreases-loop-left
decreases-loop-left l = l.left
