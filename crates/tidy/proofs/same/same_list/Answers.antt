use borrow.Author.Rules.{rules}
use Rattle.text.proofs.Search.{outright}
use Rattle.lines.proofs.RuleLaws.{rest_shorter}
use Rattle.tidy.proofs.ListLaws.{same_ended, same_differ, same_more}
use Rattle.tidy.proofs.same.same_list.Goals as goal

pub returns-then-w-eq0 : goal.returns-then-w-eq0
returns-then-w-eq0 c = outright (search (same_ended, rules))

pub returns-then-not-equal_fold : goal.returns-then-not-equal_fold
returns-then-not-equal_fold c = outright (search (same_differ, rules))

pub loop-s-smaller : goal.loop-s-smaller
loop-s-smaller c = outright (search (rest_shorter, rules))

pub loop-s-preserved : goal.loop-s-preserved
loop-s-preserved c = outright (search (same_more, rules))
