-- `table::is_entry` meets its contract. Assumes nothing.
use borrow.Author.Rules.{rules}
use Rattle.text.proofs.Search.{outright}
use Rattle.index.proofs.TableLaws.{entry_same}
use Rattle.index.proofs.table.is_entry.Goals as goal

pub returns : goal.returns
returns c = outright (search (entry_same, rules))
