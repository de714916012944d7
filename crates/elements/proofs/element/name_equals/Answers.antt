-- `elements::element::name_equals` meets its contract. What is equal is tried first, and the name checked only then. Assumes nothing.
use borrow.Author.Rules.{rules}
use Rattle.text.proofs.Search.{outright}
use Rattle.elements.proofs.ElementLaws.{name_equals_same, name_equals_differ}
use Rattle.elements.proofs.element.name_equals.Goals as goal

pub returns-then-equal_fold : goal.returns-then-equal_fold
returns-then-equal_fold c = outright (search (name_equals_same, rules))

pub returns-else-equal_fold : goal.returns-else-equal_fold
returns-else-equal_fold c = outright (search (name_equals_differ, rules))
