use borrow.Author.Rules.{rules}
use Rattle.text.proofs.Search.{outright}
use Rattle.views.proofs.TallyLaws.{raising_start, raising_end, raising_cut, raising_place, raising_client, raising_server, raising_more}
use Rattle.views.proofs.level.all_above.Goals as goal

pub loop-i-init : goal.loop-i-init
loop-i-init c = outright (search (raising_start, rules))

pub returns-then-span : goal.returns-then-span
returns-then-span c = outright (search (raising_cut, rules))

pub tried_above-tried-requires : goal.tried_above-tried-requires
tried_above-tried-requires c = outright (search (raising_place, rules))

pub bounds-notes-i : goal.bounds-notes-i
bounds-notes-i c = outright (search (raising_client, rules))

pub bounds-notes-i-in-loop-i : goal.bounds-notes-i-in-loop-i
bounds-notes-i-in-loop-i c = outright (search (raising_server, rules))

pub loop-i-preserved : goal.loop-i-preserved
loop-i-preserved c = outright (search (raising_more, rules))

pub returns : goal.returns
returns c = outright (search (raising_end, rules))
