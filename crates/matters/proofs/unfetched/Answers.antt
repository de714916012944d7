-- `unfetched` meets its contract. Assumes nothing.
use borrow.Author.Rules.{rules}
use Rattle.text.proofs.Search.{outright}
use Rattle.matters.proofs.CallLaws.{request_unfetched}
use Rattle.matters.proofs.unfetched.Goals as goal

pub returns : goal.returns
returns c = outright (search (request_unfetched, rules))
