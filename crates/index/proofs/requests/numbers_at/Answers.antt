-- `requests::numbers_at` meets its contract. Assumes nothing.
use borrow.Author.Rules.{rules}
use Rattle.text.proofs.Search.{outright}
use Rattle.index.proofs.RequestLaws.{numbers_read}
use Rattle.index.proofs.requests.numbers_at.Goals as goal

pub returns : goal.returns
returns c = outright (search (numbers_read, rules))
