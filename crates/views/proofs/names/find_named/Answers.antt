-- `names::find_named` meets its contract. Assumes nothing.
use borrow.Author.Rules.{rules}
use Rattle.text.proofs.Search.{outright}
use Rattle.views.proofs.NamesLaws.{named_place_is}
use Rattle.views.proofs.names.find_named.Goals as goal

pub returns : goal.returns
returns c = outright (search (named_place_is, rules))
