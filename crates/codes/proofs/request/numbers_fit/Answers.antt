-- What the calls answered, together. Assumes nothing.
use borrow.Author.Rules.{rules}
use Rattle.text.proofs.Search.{outright}
use Rattle.codes.proofs.RequestLaws.{numbers_fit_lem}
use Rattle.codes.proofs.request.numbers_fit.Goals as goal

pub returns : goal.returns
returns c = outright (search (numbers_fit_lem, rules))
