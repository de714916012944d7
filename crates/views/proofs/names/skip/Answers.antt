use borrow.Author.Rules.{rules}
use Rattle.text.proofs.Search.{outright}
use Rattle.views.proofs.NamesLaws.{skip_start, skip_four}
use Rattle.views.proofs.names.skip.Goals as goal

pub loop-i-init : goal.loop-i-init
loop-i-init c = outright (search (skip_start, rules))

pub loop-i-preserved : goal.loop-i-preserved
loop-i-preserved c = outright (search (skip_four, rules))
