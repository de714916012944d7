-- `element::daemon_any` meets its contract. Assumes nothing.
use borrow.Author.Rules.{rules}
use Rattle.text.proofs.Search.{outright}
use Rattle.elements.proofs.SeenLaws.{daemon_any_is}
use Rattle.elements.proofs.element.daemon_any.Goals as goal

pub returns : goal.returns
returns c = outright (search (daemon_any_is, rules))
