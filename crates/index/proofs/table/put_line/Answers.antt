-- `table::put_line` meets its contract. Assumes nothing.
use borrow.Author.Rules.{rules}
use Rattle.text.proofs.Search.{outright}
use Rattle.index.proofs.TableLaws.{line_room, ruled_next, ruled_text, passed_next, passed_text}
use Rattle.index.proofs.table.put_line.Goals as goal

pub put_entry-requires : goal.put_entry-requires
put_entry-requires c = outright (search (line_room, rules))

pub returns-then-here : goal.returns-then-here
returns-then-here c = record { next = search (ruled_next, rules); written = search (ruled_text, rules) }

pub returns : goal.returns
returns c = record { next = search (passed_next, rules); written = search (passed_text, rules) }
