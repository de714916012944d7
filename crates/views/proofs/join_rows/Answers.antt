-- `join_rows` meets its contract. Assumes nothing.
use borrow.Author.Rules.{rules}
use Rattle.text.proofs.Search.{outright}
use Rattle.views.proofs.RowLaws.{rows_joined}
use Rattle.views.proofs.join_rows.Goals as goal

pub returns : goal.returns
returns c = outright (search (rows_joined, rules))
