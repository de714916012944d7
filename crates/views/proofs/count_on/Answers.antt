-- `count_on` meets its contract. Assumes nothing.
use borrow.Author.Rules.{rules}
use Rattle.text.proofs.Search.{outright}
use Rattle.views.proofs.RowLaws.{count_ended, count_more}
use Rattle.views.proofs.count_on.Goals as goal

pub returns-then-ended : goal.returns-then-ended
returns-then-ended c = outright (search (count_ended, rules))

pub returns : goal.returns
returns c = outright (search (count_more, rules))
