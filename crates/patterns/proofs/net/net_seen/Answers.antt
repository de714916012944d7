-- `patterns::net::net_seen` meets its contract. By what was read. Assumes nothing.
use borrow.Author.Rules.{rules}
use Rattle.text.proofs.Search.{outright}
use Rattle.patterns.proofs.SeenLaws.{net_unread, net_read}
use Rattle.patterns.proofs.net.net_seen.Goals as goal

pub returns-in-None : goal.returns-in-None
returns-in-None c = outright (search (net_unread, rules))

pub returns-in-Some : goal.returns-in-Some
returns-in-Some c = outright (search (net_read, rules))
