-- `byuid::line::held` meets its contract, by the kind of address. Assumes nothing.
use borrow.Author.Rules.{rules}
use Rattle.text.proofs.Search.{outright}
use Rattle.byuid.proofs.LineLaws.{held_unknown, held_v4, held_v6_lem}
use Rattle.byuid.proofs.line.held.Goals as goal

pub returns-in-Unknown : goal.returns-in-Unknown
returns-in-Unknown c = outright (search (held_unknown, rules))

pub returns-in-V4 : goal.returns-in-V4
returns-in-V4 c = outright (search (held_v4, rules))

pub returns-in-V6 : goal.returns-in-V6
returns-in-V6 c = outright (search (held_v6_lem, rules))
