-- `level::add` meets its contract. Assumes nothing.
use borrow.Author.Rules.{rules}
use Rattle.text.proofs.Search.{outright}
use Rattle.views.proofs.CountLaws.{add_over, add_within}
use Rattle.views.proofs.level.add.Goals as goal

pub returns-then-a-b : goal.returns-then-a-b
returns-then-a-b c = outright (search (add_over, rules))

pub returns : goal.returns
returns c = outright (search (add_within, rules))
