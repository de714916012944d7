use Rattle.portacl.proofs.WalkLaws.{walk_empty, walking_start, walking_end, walking_bad, walking_on}
use borrow.Author.Rules.{rules}
use Rattle.text.proofs.Search.{outright}
use Rattle.portacl.proofs.walk_entries.Goals as goal

pub returns-then-text-eq0 : goal.returns-then-text-eq0
returns-then-text-eq0 c = outright (search (walk_empty, rules))

pub loop-at-init : goal.loop-at-init
loop-at-init c = outright (search (walking_start, rules))

pub returns-in-None : goal.returns-in-None
returns-in-None c = outright (search (walking_bad, rules))

pub loop-at-preserved : goal.loop-at-preserved
loop-at-preserved c = outright (search (walking_on, rules))

pub returns : goal.returns
returns c = outright (search (walking_end, rules))
