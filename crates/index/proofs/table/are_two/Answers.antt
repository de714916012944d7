-- `table::are_two` meets its contract. Assumes nothing.
use borrow.Author.Rules.{rules}
use Rattle.text.proofs.Search.{outright}
use Rattle.index.proofs.TableLaws.{two_same}
use Rattle.index.proofs.table.are_two.Goals as goal

pub returns : goal.returns
returns c = outright (search (two_same, rules))
