-- `element::is_client_reserved` meets its contract: the whole element first, then the half after the `@`. Assumes nothing.
use borrow.Author.Rules.{rules}
use Rattle.text.proofs.Search.{outright}
use Rattle.elements.proofs.ElementLaws.{client_reserved_first, client_reserved_whole, client_reserved_half}
use Rattle.elements.proofs.element.is_client_reserved.Goals as goal

pub returns-then-starts_with_sign : goal.returns-then-starts_with_sign
returns-then-starts_with_sign c = outright (search (client_reserved_first, rules))

pub returns-then-at-e : goal.returns-then-at-e
returns-then-at-e c = outright (search (client_reserved_whole, rules))

pub returns : goal.returns
returns c = outright (search (client_reserved_half, rules))
