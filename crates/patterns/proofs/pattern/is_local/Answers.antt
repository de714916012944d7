-- `patterns::pattern::is_local` meets its contract. Only a known name is looked at. Assumes nothing.
use Rattle.patterns.proofs.pattern.is_local.Goals as goal

pub returns-in-Known : goal.returns-in-Known
returns-in-Known c = rw c.in-Known.is c.has_no_dot.ensures
