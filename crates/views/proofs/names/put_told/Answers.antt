use borrow.Author.Rules.{rules}
use Rattle.text.proofs.Search.{outright}
use Rattle.views.proofs.NamesLaws.{telling_start, telling_more, telling_end}
use Rattle.views.proofs.names.put_told.Goals as goal

pub loop-i-init : goal.loop-i-init
loop-i-init c = outright (search (telling_start, rules))

pub loop-i-preserved : goal.loop-i-preserved
loop-i-preserved c = outright (search (telling_more, rules))

pub returns : goal.returns
returns c = outright (search (telling_end, rules))
