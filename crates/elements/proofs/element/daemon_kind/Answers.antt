-- `element::daemon_kind` meets its contract: the element is whole, or parted. Assumes nothing.
use borrow.Author.Rules.{rules}
use Rattle.text.proofs.Search.{outright}
use Rattle.elements.proofs.SeenLaws.{daemon_kind_whole}
use Rattle.elements.proofs.element.daemon_kind.Goals as goal

pub returns-then-at-e : goal.returns-then-at-e
returns-then-at-e c = outright (search (daemon_kind_whole, rules))
