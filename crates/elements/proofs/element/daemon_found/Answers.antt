-- `element::daemon_found` meets its contract. Assumes nothing.
use borrow.Author.Rules.{rules}
use Rattle.text.proofs.Search.{outright}
use Rattle.elements.proofs.SeenLaws.{daemon_found_is}
use Rattle.elements.proofs.element.daemon_found.Goals as goal

pub returns : goal.returns
returns c = outright (search (daemon_found_is, rules))
