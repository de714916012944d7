-- `pass::daemons_seen` meets its contract: the names are those at the places. Assumes nothing.
use borrow.Author.Rules.{rules}
use Rattle.text.proofs.Search.{outright}
use Rattle.lists.proofs.PassLaws.{daemons_at}
use Rattle.lists.proofs.pass.daemons_seen.Goals as goal

pub returns : goal.returns
returns c = outright (search (daemons_at, rules))
