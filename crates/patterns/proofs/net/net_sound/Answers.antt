-- `patterns::net::net_sound` meets its contract. By what was read. Assumes nothing.
use borrow.Author.Rules.{rules}
use Rattle.text.proofs.Search.{outright}
use Rattle.patterns.proofs.SeenLaws.{net_none, net_some}
use Rattle.patterns.proofs.net.net_sound.Goals as goal

pub returns-in-None : goal.returns-in-None
returns-in-None c = outright (search (net_none, rules))

pub returns-in-Some : goal.returns-in-Some
returns-in-Some c = net_some _ _ _ c.in-Some.is
