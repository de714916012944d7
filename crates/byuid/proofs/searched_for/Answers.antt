-- `byuid::searched_for` meets its contract. Assumes nothing.
use borrow.Author.Rules.{rules}
use Rattle.text.proofs.Search.{outright}
use Rattle.byuid.proofs.TextLaws.{searched_address, searched_none}
use Rattle.byuid.proofs.searched_for.Goals as goal

pub returns-then-is_ruled-in_span : goal.returns-then-is_ruled-in_span
returns-then-is_ruled-in_span c = outright (search (searched_address, rules))

pub returns-else-is_ruled-in_span : goal.returns-else-is_ruled-in_span
returns-else-is_ruled-in_span c = outright (search (searched_none, rules))
