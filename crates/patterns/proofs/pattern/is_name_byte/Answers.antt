-- `patterns::pattern::is_name_byte` meets its contract: the tests of the code are those of the definition. Assumes nothing.
use mathlib.Core.Bool.{or-false}
use Rattle.text.specs.Basics.{any}
use Rattle.patterns.specs.Pattern.{is_name_byte}
use Rattle.patterns.proofs.pattern.is_name_byte.Goals as goal

pub returns : goal.returns
unfolding is_name_byte any
returns c = simp or-false (cc)
