-- `view` meets its contract. Assumes nothing.
use borrow.Author.Rules.{rules}
use Rattle.text.proofs.Search.{outright}
use Rattle.views.proofs.NamesLaws.{names_length}
use Rattle.views.proofs.LevelLaws.{view_right}
use Rattle.views.proofs.view.Goals as goal

pub put_told-requires : goal.put_told-requires
put_told-requires c = outright (search (names_length, rules))

pub returns : goal.returns
returns c = outright (search (view_right, rules))
