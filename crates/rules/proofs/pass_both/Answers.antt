-- `rules::pass_both` meets its contract: the pass over both files is that over one, then over the other.
-- Assumes nothing.
use Rattle.rules.proofs.DecideLaws.{both_pass}
use borrow.Author.Rules.{rules}
use Rattle.text.proofs.Search.{outright}
use Rattle.rules.proofs.pass_both.Goals as goal

pub returns : goal.returns
returns c = outright (search (both_pass, rules))
