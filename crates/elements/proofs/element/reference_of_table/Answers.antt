-- `element::reference_of_table` meets its contract. Assumes nothing.
use borrow.Author.Rules.{rules}
use Rattle.text.proofs.Search.{outright}
use Rattle.elements.proofs.ElementLaws.{reference_named, reference_unnamed}
use Rattle.elements.proofs.element.reference_of_table.Goals as goal

pub returns-then-is_table_name : goal.returns-then-is_table_name
returns-then-is_table_name c = outright (search (reference_named, rules))

pub returns-else-is_table_name : goal.returns-else-is_table_name
returns-else-is_table_name c = outright (search (reference_unnamed, rules))
