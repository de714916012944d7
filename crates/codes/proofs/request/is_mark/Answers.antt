-- Each answer by the tests that led there. Assumes nothing.
use Rattle.codes.proofs.RequestLaws.{mark_fits}
use Rattle.codes.proofs.request.is_mark.Goals as goal

pub returns : goal.returns
returns c = mark_fits _
