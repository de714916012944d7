-- `byuid::answer_by` meets its contract, by the kind of address. Assumes nothing.
use borrow.Author.Rules.{rules}
use Rattle.text.proofs.Search.{outright}
use Rattle.byuid.proofs.TextLaws.{by_unknown, by_v4, by_v6}
use Rattle.byuid.proofs.answer_by.Goals as goal

pub returns-in-Unknown : goal.returns-in-Unknown
returns-in-Unknown c = outright (search (by_unknown, rules))

pub returns-in-V4 : goal.returns-in-V4
returns-in-V4 c = outright (search (by_v4, rules))

pub returns-in-V6 : goal.returns-in-V6
returns-in-V6 c = outright (search (by_v6, rules))
