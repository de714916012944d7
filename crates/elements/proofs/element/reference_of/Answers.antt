-- `element::reference_of` meets its contract: the whole element, or the half after its `@`. Assumes nothing.
use borrow.Author.Rules.{rules}
use Rattle.text.proofs.Search.{outright}
use Rattle.elements.proofs.ElementLaws.{reference_whole, reference_half}
use Rattle.elements.proofs.element.reference_of.Goals as goal

pub returns-then-at-e : goal.returns-then-at-e
returns-then-at-e c = outright (search (reference_whole, rules))

pub returns : goal.returns
returns c = outright (search (reference_half, rules))
