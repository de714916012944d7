-- `requests::host_at` meets its contract. Assumes nothing.
use borrow.Author.Rules.{rules}
use Rattle.text.proofs.Search.{outright}
use Rattle.index.proofs.RequestLaws.{host_short, host_cut, host_whole}
use Rattle.index.proofs.requests.host_at.Goals as goal

pub returns-then-bytes-at-lt18 : goal.returns-then-bytes-at-lt18
returns-then-bytes-at-lt18 c = outright (search (host_short, rules))

pub returns-in_err-name : goal.returns-in_err-name
returns-in_err-name c = outright (search (host_cut, rules))

pub returns : goal.returns
returns c = outright (search (host_whole, rules))
