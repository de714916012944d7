-- What the calls answered, together. Assumes nothing.
use borrow.Author.Rules.{rules}
use Rattle.text.proofs.Search.{outright}
use Rattle.codes.proofs.RequestLaws.{host_read}
use Rattle.codes.proofs.request.host.Goals as goal

pub returns : goal.returns
returns c = outright (search (host_read, rules))
