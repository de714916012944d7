-- `table::is_line` meets its contract. Assumes nothing.
use borrow.Author.Rules.{rules}
use Rattle.text.proofs.Search.{outright}
use Rattle.index.proofs.TableLaws.{line_same, line_empty}
use Rattle.index.proofs.table.is_line.Goals as goal

pub returns-then-here : goal.returns-then-here
returns-then-here c = outright (search (line_same, rules))

pub returns : goal.returns
returns c = outright (search (line_empty, rules))
