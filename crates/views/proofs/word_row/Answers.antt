-- `word_row` meets its contract. Assumes nothing.
use borrow.Author.Rules.{rules}
use Rattle.text.proofs.Search.{outright}
use Rattle.views.proofs.RowLaws.{row_slash, row_plain}
use Rattle.views.proofs.word_row.Goals as goal

pub returns-then-has_slash : goal.returns-then-has_slash
returns-then-has_slash c = outright (search (row_slash, rules))

pub returns : goal.returns
returns c = outright (search (row_plain, rules))
