-- `tidy::same::same_rule` meets its contract: both lists. Assumes nothing.
use borrow.Author.Rules.{rules}
use Rattle.text.proofs.Search.{outright}
use Rattle.tidy.proofs.ListLaws.{rule_other, rule_same}
use Rattle.tidy.proofs.same.same_rule.Goals as goal

pub returns-then-same_list : goal.returns-then-same_list
returns-then-same_list c = outright (search (rule_same, rules))

pub returns : goal.returns
returns c = outright (search (rule_other, rules))
