-- `walk::found_as` meets its contract. Assumes nothing.
use borrow.Author.Rules.{rules}
use Rattle.text.proofs.Search.{outright}
use Rattle.lists.proofs.WalkLaws.{found_no, found_yes, found_ask}
use Rattle.lists.proofs.walk.found_as.Goals as goal

pub returns-then-code-eq0 : goal.returns-then-code-eq0
returns-then-code-eq0 c = outright (search (found_no, rules))

pub returns-then-code-eq1 : goal.returns-then-code-eq1
returns-then-code-eq1 c = outright (search (found_yes, rules))

pub returns : goal.returns
returns c = outright (search (found_ask, rules))
