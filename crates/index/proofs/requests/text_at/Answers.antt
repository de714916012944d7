-- `requests::text_at` meets its contract. Assumes nothing.
use borrow.Author.Rules.{rules}
use Rattle.text.proofs.Search.{outright}
use Rattle.index.proofs.RequestLaws.{text_past, text_cut, text_whole}
use Rattle.index.proofs.requests.text_at.Goals as goal

pub returns-then-bytes-at : goal.returns-then-bytes-at
returns-then-bytes-at c = outright (search (text_past, rules))

pub returns-then-bytes-at-2 : goal.returns-then-bytes-at-2
returns-then-bytes-at-2 c = outright (search (text_cut, rules))

pub returns : goal.returns
returns c = outright (search (text_whole, rules))
