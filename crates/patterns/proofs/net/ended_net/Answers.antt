-- `net::ended_net` meets its contract. Assumes nothing.
use borrow.Author.Rules.{rules}
use Rattle.text.proofs.Search.{outright}
use Rattle.patterns.proofs.DottedLaws.{ended_address_lem, ended_none, ended_fields}
use Rattle.patterns.proofs.net.ended_net.Goals as goal

pub returns-then-begun : goal.returns-then-begun
returns-then-begun c = outright (search (ended_address_lem, rules))

pub returns-then-k-eq0 : goal.returns-then-k-eq0
returns-then-k-eq0 c = outright (search (ended_none, rules))

pub returns : goal.returns
returns c = outright (search (ended_fields, rules))
