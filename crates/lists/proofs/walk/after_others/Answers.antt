-- `walk::after_others` meets its contract. Assumes nothing.
use borrow.Author.Rules.{rules}
use Rattle.text.proofs.Search.{outright}
use Rattle.lists.proofs.WalkLaws.{after_others_is}
use Rattle.lists.proofs.walk.after_others.Goals as goal

pub returns : goal.returns
returns c = outright (search (after_others_is, rules))
