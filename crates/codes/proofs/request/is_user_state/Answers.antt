-- Each answer by the tests that led there. Assumes nothing.
use Rattle.codes.proofs.RequestLaws.{user_fits_lem}
use Rattle.codes.proofs.request.is_user_state.Goals as goal

pub returns : goal.returns
returns c = user_fits_lem _
