use borrow.Author.Rules.{rules}
use Rattle.text.proofs.Search.{outright}
use Rattle.classes.proofs.ClassLaws.{scanned_none, scanned_end, scanned_stop, scanned_more}
use Rattle.classes.proofs.element_from.Goals as goal

pub loop-j-init : goal.loop-j-init
loop-j-init c = outright (search (scanned_none, rules))

pub returns-then-c-ge128 : goal.returns-then-c-ge128
returns-then-c-ge128 c = outright (search (scanned_stop, rules))

pub loop-j-preserved : goal.loop-j-preserved
loop-j-preserved c = outright (search (scanned_more, rules))

pub returns : goal.returns
returns c = outright (search (scanned_end, rules))
