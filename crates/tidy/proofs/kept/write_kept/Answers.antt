-- `tidy::kept::write_kept` meets its contract: what stays, where there is room. Assumes nothing.
use borrow.Author.Rules.{rules}
use Rattle.tidy.proofs.NumberLaws.{no_room, no_room_kept, written, written_kept}
use Rattle.tidy.proofs.kept.write_kept.Goals as goal

pub returns-then-out-n : goal.returns-then-out-n
returns-then-out-n c = record { answer = search (no_room, rules); holds = search (no_room_kept, rules) }

pub returns : goal.returns
returns c = record { answer = search (written, rules); holds = search (written_kept, rules) }
