-- `element::told_seen` meets its contract: by the mask, the length and the first byte. Assumes nothing.
use borrow.Author.Rules.{rules}
use Rattle.text.proofs.Search.{outright}
use Rattle.elements.proofs.ToldLaws.{names_told, dotted_told, undotted_told, named_told, dotted_seen}
use Rattle.elements.proofs.element.told_seen.Goals as goal

pub host_seen-requires : goal.host_seen-requires
host_seen-requires c = outright (search (names_told, undotted_told, rules))

pub named_seen-requires : goal.named_seen-requires
named_seen-requires c = outright (search (named_told, rules))

pub host_seen-requires-then-e-eq0 : goal.host_seen-requires-then-e-eq0
host_seen-requires-then-e-eq0 c = outright (search (names_told, dotted_told, rules))

pub host_seen-requires-then-e-eq46 : goal.host_seen-requires-then-e-eq46
host_seen-requires-then-e-eq46 c = outright (search (names_told, dotted_told, rules))

pub returns : goal.returns
returns c = outright (search (dotted_seen, rules))
