-- `naming_at` meets its contract. Assumes nothing.
use borrow.Author.Rules.{rules}
use Rattle.text.proofs.Search.{outright}
use Rattle.views.proofs.NoteLaws.{naming_deep, naming_sound}
use Rattle.views.proofs.naming_at.Goals as goal

pub returns-then-is_deep : goal.returns-then-is_deep
returns-then-is_deep c = outright (search (naming_deep, rules))

pub returns : goal.returns
returns c = outright (search (naming_sound, rules))
