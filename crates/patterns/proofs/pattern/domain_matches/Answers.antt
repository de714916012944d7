-- `patterns::pattern::domain_matches` meets its contract. A known name that is covered. Assumes nothing.
use borrow.Author.Rules.{rules}
use Rattle.text.proofs.Search.{outright}
use Rattle.patterns.proofs.SeenLaws.{domain_known, domain_unknown}
use Rattle.patterns.proofs.pattern.domain_matches.Goals as goal

pub returns-then-look-name_known : goal.returns-then-look-name_known
returns-then-look-name_known c = outright (search (domain_known, rules))

pub returns-else-look-name_known : goal.returns-else-look-name_known
returns-else-look-name_known c = outright (search (domain_unknown, rules))
