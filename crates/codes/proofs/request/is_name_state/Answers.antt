-- Each answer by the tests that led there. Assumes nothing.
use Rattle.codes.proofs.RequestLaws.{name_fits_lem}
use Rattle.codes.proofs.request.is_name_state.Goals as goal

pub returns : goal.returns
returns c = name_fits_lem _
