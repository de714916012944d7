-- `tidy::same::matches_all` meets its contract: both lists. Assumes nothing.
use borrow.Author.Rules.{rules}
use Rattle.text.proofs.Search.{outright}
use Rattle.tidy.proofs.ListLaws.{all_other, all_same}
use Rattle.tidy.proofs.same.matches_all.Goals as goal

pub returns-then-is_all_alone : goal.returns-then-is_all_alone
returns-then-is_all_alone c = outright (search (all_same, rules))

pub returns : goal.returns
returns c = outright (search (all_other, rules))
