-- `level::tried_above` meets its contract. Assumes nothing.
use borrow.Author.Rules.{rules}
use Rattle.text.proofs.Search.{outright}
use Rattle.views.proofs.TallyLaws.{above_on, above_off}
use Rattle.views.proofs.level.tried_above.Goals as goal

pub returns-then-has_bit : goal.returns-then-has_bit
returns-then-has_bit c = outright (search (above_on, rules))

pub returns : goal.returns
returns c = outright (search (above_off, rules))
