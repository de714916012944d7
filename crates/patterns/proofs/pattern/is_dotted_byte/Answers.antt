-- `patterns::pattern::is_dotted_byte` meets its contract: the tests of the code are those of the definition. Assumes nothing.
use mathlib.Core.Bool.{or-false}
use Rattle.text.specs.Basics.{any}
use Rattle.patterns.proofs.pattern.is_dotted_byte.Goals as goal

pub returns : goal.returns
unfolding any
returns c = simp or-false (cc)
