-- `address::read::read_address` meets its contract: IPv4 text first, then IPv6 text. Assumes nothing.
use borrow.Author.Rules.{rules}
use Rattle.text.proofs.Search.{outright}
use Rattle.address.proofs.ReadV6Laws.{address_v4, address_none, address_v6}
use Rattle.address.proofs.read.read_address.Goals as goal

pub returns-in-None-w : goal.returns-in-None-w
returns-in-None-w c = outright (search (address_none, rules))

pub returns-in-Some-w : goal.returns-in-Some-w
returns-in-Some-w c = outright (search (address_v6, rules))

pub returns-in-Some : goal.returns-in-Some
returns-in-Some c = outright (search (address_v4, rules))
