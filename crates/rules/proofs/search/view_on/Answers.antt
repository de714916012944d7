-- `search::view_on` meets its contract. Assumes nothing.
use borrow.Author.Rules.{rules}
use Rattle.text.proofs.Search.{outright}
use Rattle.rules.proofs.SearchLaws.{view_noted}
use Rattle.rules.proofs.search.view_on.Goals as goal

pub returns : goal.returns
returns c = outright (search (view_noted, rules))
