-- `tidy::numbers::mark_count` meets its contract: by the mark. Assumes nothing.
use borrow.Author.Rules.{rules}
use Rattle.tidy.proofs.NumberLaws.{count_one, count_none}
use Rattle.tidy.proofs.numbers.mark_count.Goals as goal

pub returns-then-marks-n-eq1 : goal.returns-then-marks-n-eq1
returns-then-marks-n-eq1 c = record { count = search (count_one, rules); few = search rules }

pub returns : goal.returns
returns c = record { count = search (count_none, rules); few = search rules }
