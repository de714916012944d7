-- What the calls answered, together. Assumes nothing.
use borrow.Author.Rules.{rules}
use Rattle.text.proofs.Search.{outright}
use Rattle.codes.proofs.RequestLaws.{target_read}
use Rattle.codes.proofs.request.read_target.Goals as goal

pub returns : goal.returns
returns c = outright (search (target_read, rules))
