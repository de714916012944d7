-- `patterns::net::pair_net` meets its contract. By what was read of both. Assumes nothing.
use Rattle.patterns.proofs.NetLaws.{pair_net_values}
use Rattle.patterns.proofs.net.pair_net.Goals as goal

pub returns : goal.returns
returns c = pair_net_values _ _ _ _ c.in_ok-n.was c.in_ok-m.was
