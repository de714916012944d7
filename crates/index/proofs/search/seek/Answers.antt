use borrow.Author.Rules.{rules}
use Rattle.text.proofs.Search.{outright}
use Rattle.index.proofs.EntryLaws.{seeks_start, seeks_found, seeks_more, seeks_end}
use Rattle.index.proofs.search.seek.Goals as goal

pub loop-rest-init : goal.loop-rest-init
loop-rest-init c = outright (search (seeks_start, rules))

pub returns-in-Some : goal.returns-in-Some
returns-in-Some c = outright (search (seeks_found, rules))

pub loop-rest-preserved : goal.loop-rest-preserved
loop-rest-preserved c = outright (search (seeks_more, rules))

pub returns : goal.returns
returns c = outright (search (seeks_end, rules))
