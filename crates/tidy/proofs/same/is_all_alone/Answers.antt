-- `tidy::same::is_all_alone` meets its contract: the first element, and that none follows. Assumes nothing.
use borrow.Author.Rules.{rules}
use Rattle.text.proofs.Search.{outright}
use Rattle.tidy.proofs.ListLaws.{alone_other, alone_ended}
use Rattle.tidy.proofs.same.is_all_alone.Goals as goal

pub returns-then-not-equal_fold : goal.returns-then-not-equal_fold
returns-then-not-equal_fold c = outright (search (alone_other, rules))

pub returns : goal.returns
returns c = outright (search (alone_ended, rules))
