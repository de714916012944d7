-- `is_marked` meets its contract. Assumes nothing.
use borrow.Author.Rules.{rules}
use Rattle.text.proofs.Search.{outright}
use Rattle.views.proofs.NoteLaws.{marked_far, marked_outside, marked_inside}
use Rattle.views.proofs.is_marked.Goals as goal

pub returns-then-i-ge64 : goal.returns-then-i-ge64
returns-then-i-ge64 c = outright (search (marked_far, rules))

pub returns-then-notes-k : goal.returns-then-notes-k
returns-then-notes-k c = outright (search (marked_outside, rules))

pub returns : goal.returns
returns c = outright (search (marked_inside, rules))
