-- `element::client_any` meets its contract. Assumes nothing.
use borrow.Author.Rules.{rules}
use Rattle.text.proofs.Search.{outright}
use Rattle.elements.proofs.SeenLaws.{client_any_is}
use Rattle.elements.proofs.element.client_any.Goals as goal

pub returns : goal.returns
returns c = outright (search (client_any_is, rules))
