-- `tidy::check_texts` meets its contract: the limits, then the rest. Assumes nothing.
use borrow.Author.Rules.{rules}
use Rattle.text.proofs.Search.{outright}
use Rattle.tidy.proofs.CheckLaws.{over_allow, over_deny, over_none}
use Rattle.tidy.proofs.check_texts.Goals as goal

pub returns-then-over : goal.returns-then-over
returns-then-over c = outright (search (over_allow, rules))

pub returns-then-over-2 : goal.returns-then-over-2
returns-then-over-2 c = outright (search (over_deny, rules))

pub returns : goal.returns
returns c = outright (search (over_none, rules))
