-- `fields::ended_address` meets its contract: the same test. Assumes nothing.
use Rattle.address.proofs.fields.ended_address.Goals as goal

pub returns-then-begun-k : goal.returns-then-begun-k
returns-then-begun-k c = rw c.if-begun-k.true

pub returns : goal.returns
returns c = rw c.if-begun-k.false
