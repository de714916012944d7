-- `element::is_daemon_reserved` meets its contract. Assumes nothing.
use borrow.Author.Rules.{rules}
use Rattle.text.proofs.Search.{outright}
use Rattle.elements.proofs.ElementLaws.{daemon_reserved_slash, daemon_reserved_client}
use Rattle.elements.proofs.element.is_daemon_reserved.Goals as goal

pub returns-then-has_slash : goal.returns-then-has_slash
returns-then-has_slash c = outright (search (daemon_reserved_slash, rules))

pub returns : goal.returns
returns c = outright (search (daemon_reserved_client, rules))
