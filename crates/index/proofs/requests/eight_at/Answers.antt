-- `requests::eight_at` meets its contract: two halves. Assumes nothing.
use borrow.Author.Rules.{rules}
use Rattle.text.proofs.Search.{outright}
use Rattle.index.proofs.RequestLaws.{eight_bytes}
use Rattle.index.proofs.requests.eight_at.Goals as goal

pub returns : goal.returns
returns c = outright (search (eight_bytes, rules))
