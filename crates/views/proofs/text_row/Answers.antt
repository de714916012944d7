use borrow.Author.Rules.{rules}
use Rattle.text.proofs.Search.{outright}
use Rattle.tables.proofs.WordLaws.{rest_shorter}
use Rattle.views.proofs.RowLaws.{rowed_start, rowed_end, rowed_client_fits, rowed_server_fits, rowed_more}
use Rattle.views.proofs.text_row.Goals as goal

pub loop-rest-init : goal.loop-rest-init
loop-rest-init c = outright (search (rowed_start, rules))

pub returns-then-w-eq0 : goal.returns-then-w-eq0
returns-then-w-eq0 c = outright (search (rowed_end, rules))

pub join_rows-joined-requires : goal.join_rows-joined-requires
join_rows-joined-requires c = outright (search (rowed_client_fits, rowed_server_fits, rules))

pub loop-rest-smaller : goal.loop-rest-smaller
loop-rest-smaller c = outright (search (rest_shorter, rules))

pub loop-rest-preserved : goal.loop-rest-preserved
loop-rest-preserved c = outright (search (rowed_more, rules))
