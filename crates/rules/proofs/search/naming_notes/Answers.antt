-- `rules::search::naming_notes` meets its contract: whether a table may be named does not depend on the request. Assumes nothing.
use borrow.Author.Rules.{rules}
use Rattle.text.proofs.Search.{outright}
use Rattle.rules.proofs.SearchLaws.{naming_noted}
use Rattle.rules.proofs.search.naming_notes.Goals as goal

pub returns : goal.returns
returns c = outright (search (naming_noted, rules))
