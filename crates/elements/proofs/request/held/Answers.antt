-- `request::held` meets its contract: only the two hosts change. Assumes nothing.
use Rattle.elements.proofs.HeldLaws.{request_held}
use Rattle.elements.proofs.request.held.Goals as goal

pub returns : goal.returns
returns c = request_held _ _ _ c.held_host.ensures c.held_host-2.ensures
