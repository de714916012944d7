-- `pass::clients_side` meets its contract. Assumes nothing.
use borrow.Author.Rules.{rules}
use Rattle.text.proofs.Search.{outright}
use Rattle.lists.proofs.PassLaws.{side_negated, side_kept}
use Rattle.lists.proofs.pass.clients_side.Goals as goal

pub returns-then-x : goal.returns-then-x
returns-then-x c = outright (search (side_negated, rules))

pub returns-else-x : goal.returns-else-x
returns-else-x c = outright (search (side_kept, rules))
