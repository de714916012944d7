-- `patterns::pattern::domain_covers` meets its contract. What covers is tried first, and the pattern checked only then. Assumes nothing.
use borrow.Author.Rules.{rules}
use Rattle.text.proofs.Search.{outright}
use Rattle.patterns.proofs.PatternLaws.{domain_covers_ends, domain_covers_differs}
use Rattle.patterns.proofs.pattern.domain_covers.Goals as goal

pub returns-then-ends_with_fold : goal.returns-then-ends_with_fold
returns-then-ends_with_fold c = outright (search (domain_covers_ends, rules))

pub returns-else-ends_with_fold : goal.returns-else-ends_with_fold
returns-else-ends_with_fold c = outright (search (domain_covers_differs, rules))
