-- `command::is_blank_byte` meets its contract: the same tests, and one that is false. Assumes nothing.
use mathlib.Core.Bool.{or-false}
use Rattle.text.specs.Basics.{any}
use Rattle.lines.specs.Parts.{is_blank_byte}
use Rattle.lines.proofs.command.is_blank_byte.Goals as goal

pub returns : goal.returns
unfolding any is_blank_byte
returns c = rw or-false
