-- Each answer by the tests that led there. Assumes nothing.
use Rattle.codes.proofs.RequestLaws.{protocol_fits}
use Rattle.codes.proofs.request.is_protocol.Goals as goal

pub returns : goal.returns
returns c = protocol_fits _
