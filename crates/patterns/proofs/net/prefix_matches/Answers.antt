-- `patterns::net::prefix_matches` meets its contract. Only an IPv6 address is looked at. Assumes nothing.
use Rattle.patterns.proofs.net.prefix_matches.Goals as goal

pub returns-in-V6 : goal.returns-in-V6
returns-in-V6 c = rw c.in-V6.is c.same_prefix_v6.ensures
