-- `tidy::numbers::write_numbers` meets its contract: the numbers, where there is room. Assumes nothing.
use borrow.Author.Rules.{rules}
use Rattle.text.proofs.Search.{outright}
use Rattle.tidy.proofs.NumberLaws.{numbers_no_room, numbers_kept, numbers_fit_lem, numbers_written, numbers_held}
use Rattle.tidy.proofs.numbers.write_numbers.Goals as goal

pub returns-then-out-n : goal.returns-then-out-n
returns-then-out-n c = record { answer = search (numbers_no_room, rules); holds = search (numbers_kept, rules) }

pub put_numbers-requires : goal.put_numbers-requires
put_numbers-requires c = outright (search (numbers_fit_lem, rules))

pub returns : goal.returns
returns c = record { answer = search (numbers_written, rules); holds = search (numbers_held, rules) }
