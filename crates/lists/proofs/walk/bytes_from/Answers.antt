-- `walk::bytes_from` meets its contract. Assumes nothing.
use borrow.Author.Rules.{rules}
use Rattle.text.proofs.Search.{outright}
use Rattle.lists.proofs.WalkLaws.{past_end, from_place}
use Rattle.lists.proofs.walk.bytes_from.Goals as goal

pub returns-then-s-at : goal.returns-then-s-at
returns-then-s-at c = outright (search (past_end, rules))

pub returns : goal.returns
returns c = outright (search (from_place, rules))
