use borrow.Author.Rules.{rules}
use Rattle.text.proofs.Search.{outright}
use Rattle.tables.proofs.WordLaws.{rest_shorter}
use Rattle.views.proofs.TallyLaws.{both_start, both_end, both_done, both_more}
use Rattle.views.proofs.level.text_tried.Goals as goal

pub loop-rest-init : goal.loop-rest-init
loop-rest-init c = outright (search (both_start, rules))

pub returns-then-w-eq0 : goal.returns-then-w-eq0
returns-then-w-eq0 c = outright (search (both_end, rules))

pub returns-then-are_done : goal.returns-then-are_done
returns-then-are_done c = outright (search (both_done, rules))

pub loop-rest-smaller : goal.loop-rest-smaller
loop-rest-smaller c = outright (search (rest_shorter, rules))

pub loop-rest-preserved : goal.loop-rest-preserved
loop-rest-preserved c = outright (search (both_more, rules))
