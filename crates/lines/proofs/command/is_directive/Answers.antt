-- `command::is_directive` meets its contract: the same tests, and one that is false. Assumes nothing.
use mathlib.Core.Bool.{or_assoc, or-false}
use Rattle.text.specs.Basics.{any}
use Rattle.lines.proofs.command.is_directive.Goals as goal

pub returns : goal.returns
unfolding any
returns c = simp (or_assoc, or-false)
