-- `patterns::pattern::plain_matches` meets its contract. A known name that is covered. Assumes nothing.
use borrow.Author.Rules.{rules}
use Rattle.text.proofs.Search.{outright}
use Rattle.patterns.proofs.SeenLaws.{plain_known, plain_unknown}
use Rattle.patterns.proofs.pattern.plain_matches.Goals as goal

pub returns-then-look-name_known : goal.returns-then-look-name_known
returns-then-look-name_known c = outright (search (plain_known, rules))

pub returns-else-look-name_known : goal.returns-else-look-name_known
returns-else-look-name_known c = outright (search (plain_unknown, rules))
