-- What was gathered is the request that the numbers stand for. Assumes nothing.
use borrow.Author.Rules.{rules}
use Rattle.text.proofs.Search.{outright}
use Rattle.codes.proofs.RequestLaws.{read_gathered}
use Rattle.codes.proofs.request.read.Goals as goal

pub returns : goal.returns
returns c = outright (search (read_gathered, rules))
