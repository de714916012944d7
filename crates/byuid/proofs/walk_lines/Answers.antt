use borrow.Author.Rules.{rules}
use Rattle.text.proofs.Search.{outright}
use Rattle.byuid.proofs.TextLaws.{walking_start, walking_retired, walking_on, walking_end}
use Rattle.byuid.proofs.walk_lines.Goals as goal

pub loop-at-init : goal.loop-at-init
loop-at-init c = outright (search (walking_start, rules))

pub returns-in-None : goal.returns-in-None
returns-in-None c = outright (search (walking_retired, rules))

pub loop-at-preserved : goal.loop-at-preserved
loop-at-preserved c = outright (search (walking_on, rules))

pub returns : goal.returns
returns c = outright (search (walking_end, rules))
