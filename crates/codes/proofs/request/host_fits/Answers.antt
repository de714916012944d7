-- What the calls answered, together. Assumes nothing.
use borrow.Author.Rules.{rules}
use Rattle.text.proofs.Search.{outright}
use Rattle.codes.proofs.RequestLaws.{host_fits_lem}
use Rattle.codes.proofs.request.host_fits.Goals as goal

pub returns : goal.returns
returns c = outright (search (host_fits_lem, rules))
