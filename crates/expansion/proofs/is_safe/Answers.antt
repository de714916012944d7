-- The three tests are those of the definition. Assumes nothing.
use borrow.Author.Rules.{rules}
use Rattle.text.proofs.Search.{outright}
use Rattle.expansion.proofs.TextLaws.{safe_tests}
use Rattle.expansion.proofs.is_safe.Goals as goal

pub returns : goal.returns
returns c = outright (search (safe_tests, rules))
