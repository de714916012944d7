-- `rules::naming::check_section_five` meets its contract: 15, then 17. Assumes nothing.
use borrow.Author.Rules.{rules}
use Rattle.text.proofs.Search.{outright}
use Rattle.rules.proofs.OrderLaws.{five_misnamed, five_named}
use Rattle.rules.proofs.naming.check_section_five.Goals as goal

pub returns-then-found-eq0 : goal.returns-then-found-eq0
returns-then-found-eq0 c = outright (search (five_named, rules))

pub returns : goal.returns
returns c = outright (search (five_misnamed, rules))
