-- `patterns::net::leading_net` meets its contract. The fields are shifted into place, one to three of them. Assumes nothing.
use Rattle.patterns.proofs.NetLaws.{leading_net_shifted}
use Rattle.patterns.proofs.net.leading_net.Goals as goal

pub returns : goal.returns
returns c = leading_net_shifted _ _ c.requires.0 c.requires.1 c.requires.2
