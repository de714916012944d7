use Rattle.text.proofs.Reading.{read_empty, read_zero, reading_start, read_below, read_above, read_over, reading_step, read_done}
use borrow.Author.Rules.{rules}
use Rattle.text.proofs.Search.{outright}
use Rattle.text.proofs.read_decimal.Goals as goal

pub returns-then-s-eq0 : goal.returns-then-s-eq0
returns-then-s-eq0 c = outright (search (read_empty, rules))

pub returns-then-s : goal.returns-then-s
returns-then-s c = outright (search (read_zero, rules))

pub loop-b-init : goal.loop-b-init
loop-b-init c = outright (search (reading_start, rules))

pub returns-then-b-lt48 : goal.returns-then-b-lt48
returns-then-b-lt48 c = outright (search (read_below, rules))

pub returns-then-b-gt57 : goal.returns-then-b-gt57
returns-then-b-gt57 c = outright (search (read_above, rules))

pub returns-then-limit-n : goal.returns-then-limit-n
returns-then-limit-n c = outright (search (read_over, rules))

pub loop-b-preserved : goal.loop-b-preserved
loop-b-preserved c = outright (search (reading_step, rules))

pub returns : goal.returns
returns c = outright (search (read_done, rules))
