-- `portacl::is_entry` meets its contract. Assumes nothing.
use borrow.Author.Rules.{rules}
use Rattle.text.proofs.Search.{outright}
use Rattle.portacl.proofs.DecideLaws.{entry_none, entry_some}
use Rattle.portacl.proofs.is_entry.Goals as goal

pub returns-in-None : goal.returns-in-None
returns-in-None c = outright (search (entry_none, rules))

pub returns-in-Some : goal.returns-in-Some
returns-in-Some c = outright (search (entry_some, rules))
