-- `requests::four_at` meets its contract. Assumes nothing.
use borrow.Author.Rules.{rules}
use Rattle.text.proofs.Search.{outright}
use Rattle.index.proofs.RequestLaws.{four_bytes}
use Rattle.index.proofs.requests.four_at.Goals as goal

pub returns : goal.returns
returns c = outright (search (four_bytes, rules))
