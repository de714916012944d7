-- `table::entry_of` meets its contract. Assumes nothing.
use borrow.Author.Rules.{rules}
use Rattle.text.proofs.Search.{outright}
use Rattle.index.proofs.TableLaws.{clients_fit, entry_is}
use Rattle.index.proofs.table.entry_of.Goals as goal

pub overflow_add-end : goal.overflow_add-end
overflow_add-end c = outright (search (clients_fit, rules))

pub returns : goal.returns
returns c = outright (search (entry_is, rules))
