-- `patterns::pattern::plain_covers` meets its contract. What covers is tried first, and the pattern checked only then. Assumes nothing.
use borrow.Author.Rules.{rules}
use Rattle.text.proofs.Search.{outright}
use Rattle.patterns.proofs.PatternLaws.{plain_covers_same, plain_covers_differs}
use Rattle.patterns.proofs.pattern.plain_covers.Goals as goal

pub returns-then-equal_fold : goal.returns-then-equal_fold
returns-then-equal_fold c = outright (search (plain_covers_same, rules))

pub returns-else-equal_fold : goal.returns-else-equal_fold
returns-else-equal_fold c = outright (search (plain_covers_differs, rules))
