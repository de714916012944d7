-- `is_deep` meets its contract. Assumes nothing.
use borrow.Author.Rules.{rules}
use Rattle.text.proofs.Search.{outright}
use Rattle.views.proofs.NoteLaws.{deep_outside, deep_inside}
use Rattle.views.proofs.is_deep.Goals as goal

pub returns-then-notes-k : goal.returns-then-notes-k
returns-then-notes-k c = outright (search (deep_outside, rules))

pub returns : goal.returns
returns c = outright (search (deep_inside, rules))
