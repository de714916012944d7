-- `patterns::net::pair_prefix` meets its contract. By what was read of both. Assumes nothing.
use Rattle.patterns.proofs.NetLaws.{prefix_with_values}
use Rattle.patterns.proofs.net.pair_prefix.Goals as goal

pub returns : goal.returns
returns c = prefix_with_values _ _ _ _ _ c.in_ok-high.was c.in_ok-n.was
