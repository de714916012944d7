-- `element::half_read` meets its contract: a table, or a pattern that names none. Assumes nothing.
use borrow.Author.Rules.{rules}
use Rattle.text.proofs.Search.{outright}
use Rattle.elements.proofs.SeenLaws.{half_table, half_plain}
use Rattle.elements.proofs.element.half_read.Goals as goal

pub returns-then-has_slash : goal.returns-then-has_slash
returns-then-has_slash c = outright (search (half_table, rules))

pub returns-else-has_slash : goal.returns-else-has_slash
returns-else-has_slash c = outright (search (half_plain, rules))
