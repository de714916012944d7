-- `portacl::grants` meets its contract: both parts of the test, and whose the id is, are those of the definition.
-- Assumes nothing.
use Rattle.portacl.specs.Code.{grants_to}
use Rattle.portacl.proofs.grants.Goals as goal

pub returns-then-same_protocol-entry : goal.returns-then-same_protocol-entry
unfolding grants_to
returns-then-same_protocol-entry c = rw (← c.same_protocol.ensures, c.if-same_protocol-entry.true) c.is_own.ensures

pub returns-else-same_protocol-entry : goal.returns-else-same_protocol-entry
unfolding grants_to
returns-else-same_protocol-entry c = rw (← c.same_protocol.ensures, c.if-same_protocol-entry.false)
