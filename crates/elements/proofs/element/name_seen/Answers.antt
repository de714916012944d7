-- `element::name_seen` meets its contract. Assumes nothing.
use borrow.Author.Rules.{rules}
use Rattle.text.proofs.Search.{outright}
use Rattle.elements.proofs.SeenLaws.{name_seen_looked, name_seen_passed}
use Rattle.elements.proofs.element.name_seen.Goals as goal

pub returns-then-look-sound : goal.returns-then-look-sound
returns-then-look-sound c = outright (search (name_seen_looked, rules))

pub returns : goal.returns
returns c = outright (search (name_seen_passed, rules))
