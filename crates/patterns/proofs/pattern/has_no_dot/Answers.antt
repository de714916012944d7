-- `patterns::pattern::has_no_dot` meets its contract. The first dot stands at the end where there is none. Assumes nothing.
use Rattle.patterns.proofs.TestLaws.{no_dot}
use Rattle.patterns.proofs.pattern.has_no_dot.Goals as goal

pub returns : goal.returns
returns c = rw c.index_of.ensures.place (no_dot _)
