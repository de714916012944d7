-- `count::if_looked` meets its contract. Assumes nothing.
use borrow.Author.Rules.{rules}
use Rattle.text.proofs.Search.{outright}
use Rattle.elements.proofs.CountLaws.{counted_looked, counted_passed}
use Rattle.elements.proofs.count.if_looked.Goals as goal

pub returns-then-look : goal.returns-then-look
returns-then-look c = outright (search (counted_looked, rules))

pub returns-else-look : goal.returns-else-look
returns-else-look c = outright (search (counted_passed, rules))
