-- `counted_at` meets its contract. Assumes nothing.
use borrow.Author.Rules.{rules}
use Rattle.text.proofs.Search.{outright}
use Rattle.views.proofs.NoteLaws.{counted_far, counted_past, counted_outside, counted_inside}
use Rattle.views.proofs.counted_at.Goals as goal

pub returns-then-i-ge64 : goal.returns-then-i-ge64
returns-then-i-ge64 c = outright (search (counted_far, rules))

pub returns-then-notes-k : goal.returns-then-notes-k
returns-then-notes-k c = outright (search (counted_past, rules))

pub returns-then-notes-at : goal.returns-then-notes-at
returns-then-notes-at c = outright (search (counted_outside, rules))

pub returns : goal.returns
returns c = outright (search (counted_inside, rules))
