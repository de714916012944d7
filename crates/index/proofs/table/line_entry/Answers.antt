-- `table::line_entry` meets its contract. Assumes nothing.
use borrow.Author.Rules.{rules}
use Rattle.text.proofs.Search.{outright}
use Rattle.index.proofs.TableLaws.{line_fits, lines_fit, line_entry_is}
use Rattle.index.proofs.table.line_entry.Goals as goal

pub entry_of-requires : goal.entry_of-requires
entry_of-requires c = outright (search (line_fits, lines_fit, rules))

pub returns : goal.returns
returns c = outright (search (line_entry_is, rules))
