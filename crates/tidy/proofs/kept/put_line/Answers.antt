-- `tidy::kept::put_line` meets its contract: by the mark. Assumes nothing.
use borrow.Author.Rules.{rules}
use Rattle.text.proofs.Search.{outright}
use Rattle.tidy.proofs.KeptLaws.{line_none, line_none_kept, line_room, line_all, line_all_kept}
use Rattle.tidy.proofs.kept.put_line.Goals as goal

pub returns-then-marks-n-eq2 : goal.returns-then-marks-n-eq2
returns-then-marks-n-eq2 c = record { next = search (line_none, rules); written = search (line_none_kept, rules) }

pub put-requires : goal.put-requires
put-requires c = outright (search (line_room, rules))

pub returns : goal.returns
returns c = record { next = search (line_all, rules); written = search (line_all_kept, rules) }
