-- `portacl::is_own` meets its contract: a group's id is looked for among the groups, a user's is compared.
-- Assumes nothing.
use mathlib.Core.Bool.{or-false}
use mathlib.Core.Path.{sym}
use Rattle.text.specs.Basics.{any}
use Rattle.portacl.proofs.is_own.Goals as goal

pub returns-then-group : goal.returns-then-group
returns-then-group c = rw c.if-group.true c.is_among.ensures

pub returns-else-group : goal.returns-else-group
unfolding any
returns-else-group c = rw c.if-group.false (sym (or-false _))
