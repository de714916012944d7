-- `byuid::line::held_v6` meets its contract. Assumes nothing.
use borrow.Author.Rules.{rules}
use Rattle.text.proofs.Search.{outright}
use Rattle.byuid.proofs.LineLaws.{held_colon, held_no_colon}
use Rattle.byuid.proofs.line.held_v6.Goals as goal

pub returns-then-index_of-l : goal.returns-then-index_of-l
returns-then-index_of-l c = outright (search (held_colon, rules))

pub returns-else-index_of-l : goal.returns-else-index_of-l
returns-else-index_of-l c = outright (search (held_no_colon, rules))
