use borrow.Author.Rules.{rules}
use Rattle.views.proofs.LevelLaws.{risen_start, risen_stays, risen_more}
use Rattle.text.proofs.Search.{outright}
use Rattle.views.proofs.level.+raised.Goals as goal

pub returns-then-depth-eq0 : goal.returns-then-depth-eq0
returns-then-depth-eq0 t c = outright (search (risen_start, rules))

pub returns-then-below-eq0 : goal.returns-then-below-eq0
returns-then-below-eq0 t c = outright (search (risen_stays, rules))

pub returns : goal.returns
returns t c = outright (search (risen_more, rules))
