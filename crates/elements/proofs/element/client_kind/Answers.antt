-- `element::client_kind` meets its contract: the element is whole, or parted. Assumes nothing.
use borrow.Author.Rules.{rules}
use Rattle.text.proofs.Search.{outright}
use Rattle.elements.proofs.SeenLaws.{client_kind_whole}
use Rattle.elements.proofs.element.client_kind.Goals as goal

pub returns-then-at-e : goal.returns-then-at-e
returns-then-at-e c = outright (search (client_kind_whole, rules))
