use borrow.Author.Rules.{rules}
use Rattle.text.proofs.Search.{outright}
use Rattle.views.proofs.RowLaws.{gathered_start, gathered_end, gathered_cut, gathered_place, client_place, server_place, gathered_more}
use Rattle.views.proofs.all_rows.Goals as goal

pub loop-i-init : goal.loop-i-init
loop-i-init c = outright (search (gathered_start, rules))

pub returns-then-span : goal.returns-then-span
returns-then-span c = outright (search (gathered_cut, rules))

pub bounds-rows-i : goal.bounds-rows-i
bounds-rows-i c = outright (search (gathered_place, rules))

pub bounds-rows-i-in-loop-i : goal.bounds-rows-i-in-loop-i
bounds-rows-i-in-loop-i c = outright (search (client_place, rules))

pub bounds-rows-i-in-loop-i-2 : goal.bounds-rows-i-in-loop-i-2
bounds-rows-i-in-loop-i-2 c = outright (search (server_place, rules))

pub loop-i-preserved : goal.loop-i-preserved
loop-i-preserved c = outright (search (gathered_more, rules))

pub returns : goal.returns
returns c = outright (search (gathered_end, rules))
