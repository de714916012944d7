-- `patterns::net::dotted_seen` meets its contract. An IPv4 address has 32 bits, so that its net covers it where the pattern's test holds. Assumes nothing.
use borrow.Author.Rules.{rules}
use Rattle.text.proofs.Search.{outright}
use Rattle.patterns.proofs.SeenLaws.{dotted_nowhere, dotted_v4, dotted_v6}
use Rattle.patterns.proofs.net.dotted_seen.Goals as goal

pub returns-in-Unknown : goal.returns-in-Unknown
returns-in-Unknown c = outright (search (dotted_nowhere, rules))

pub returns-in-V4 : goal.returns-in-V4
returns-in-V4 c = outright (search (dotted_v4, rules))

pub returns-in-V6 : goal.returns-in-V6
returns-in-V6 c = outright (search (dotted_v6, rules))
