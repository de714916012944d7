-- `walk::negated_list` meets its contract. Assumes nothing.
use borrow.Author.Rules.{rules}
use Rattle.text.proofs.Search.{outright}
use Rattle.lists.proofs.WalkLaws.{negated_list_is}
use Rattle.lists.proofs.walk.negated_list.Goals as goal

pub returns : goal.returns
returns c = outright (search (negated_list_is, rules))
