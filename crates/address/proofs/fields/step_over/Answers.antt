-- `fields::step_over` meets its contract, test by test. Assumes nothing.
use borrow.Author.Rules.{rules}
use Rattle.text.proofs.Search.{outright}
use Rattle.address.proofs.FieldLaws.{step_dot, step_dots, step_below, step_above, step_zero, step_beyond, step_digit}
use Rattle.address.proofs.fields.step_over.Goals as goal

pub returns-then-begun-k : goal.returns-then-begun-k
returns-then-begun-k c = outright (search (step_dot, rules))

pub returns-then-b-eq46 : goal.returns-then-b-eq46
returns-then-b-eq46 c = outright (search (step_dots, rules))

pub returns-then-b-lt48 : goal.returns-then-b-lt48
returns-then-b-lt48 c = outright (search (step_below, rules))

pub returns-then-b-gt57 : goal.returns-then-b-gt57
returns-then-b-gt57 c = outright (search (step_above, rules))

pub returns-then-begun-v : goal.returns-then-begun-v
returns-then-begun-v c = outright (search (step_zero, rules))

pub returns-then-u-gt255 : goal.returns-then-u-gt255
returns-then-u-gt255 c = outright (search (step_beyond, rules))

pub returns : goal.returns
returns c = outright (search (step_digit, rules))
