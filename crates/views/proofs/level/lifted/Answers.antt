-- `level::lifted` meets its contract. Assumes nothing.
use borrow.Author.Rules.{rules}
use Rattle.text.proofs.Search.{outright}
use Rattle.views.proofs.LevelLaws.{lift_right}
use Rattle.views.proofs.level.lifted.Goals as goal

pub returns : goal.returns
returns c = outright (search (lift_right, rules))
