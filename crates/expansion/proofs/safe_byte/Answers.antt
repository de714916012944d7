-- By the test. Assumes nothing.
use mathlib.Core.Path.{sym, ◌∙◌}
use Rattle.expansion.specs.Expand.{safe_byte}
use Rattle.expansion.proofs.safe_byte.Goals as goal

pub returns-then-is_safe : goal.returns-then-is_safe
unfolding safe_byte
returns-then-is_safe c = rw (sym c.is_safe.ensures ∙ c.if-is_safe.true)

pub returns-else-is_safe : goal.returns-else-is_safe
unfolding safe_byte
returns-else-is_safe c = rw (sym c.is_safe.ensures ∙ c.if-is_safe.false)
