-- `request::held_host` meets its contract: only the address changes. Assumes nothing.
use Rattle.elements.proofs.HeldLaws.{host_held}
use Rattle.elements.proofs.request.held_host.Goals as goal

pub returns : goal.returns
returns c = host_held _ _ c.unmapped.ensures
