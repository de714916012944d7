-- `element::client_found` meets its contract. Assumes nothing.
use borrow.Author.Rules.{rules}
use Rattle.text.proofs.Search.{outright}
use Rattle.elements.proofs.SeenLaws.{client_found_is, named_found}
use Rattle.elements.proofs.ToldLaws.{names_told}
use Rattle.elements.proofs.element.client_found.Goals as goal

pub host_seen-host-requires : goal.host_seen-host-requires
host_seen-host-requires c = outright (search (names_told, rules))

pub returns-then-mask-lt8 : goal.returns-then-mask-lt8
returns-then-mask-lt8 c = outright (search (named_found, names_told, rules))

pub returns : goal.returns
returns c = outright (search (client_found_is, rules))
