-- `tidy::numbers::put_marked` meets its contract: by the mark. Assumes nothing.
use borrow.Author.Rules.{rules}
use Rattle.text.proofs.Search.{outright}
use Rattle.tidy.proofs.NumberLaws.{room_one, put_one, put_one_kept, put_none, put_none_kept}
use Rattle.tidy.proofs.numbers.put_marked.Goals as goal

pub put_number-requires : goal.put_number-requires
put_number-requires c = outright (search (room_one, rules))

pub returns-then-marks-n-eq1 : goal.returns-then-marks-n-eq1
returns-then-marks-n-eq1 c = record { next = search (put_one, rules); written = search (put_one_kept, rules) }

pub returns : goal.returns
returns c = record { next = search (put_none, rules); written = search (put_none_kept, rules) }
