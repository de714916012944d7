-- `address::read::join` meets its contract: the bits of both sides lie apart, so no word carries. Assumes nothing.
use borrow.Author.Rules.{rules}
use Rattle.text.proofs.Search.{outright}
use Rattle.address.proofs.WordLaws.{join_over, join_high, join_low, join_value}
use Rattle.address.proofs.read.join.Goals as goal

pub overflow_add-result : goal.overflow_add-result
overflow_add-result c = record { fits = search (join_high, rules) }

pub overflow_add-result-then-a-b-lt8 : goal.overflow_add-result-then-a-b-lt8
overflow_add-result-then-a-b-lt8 c = record { fits = search (join_low, rules) }

pub returns-then-a-b-lt8 : goal.returns-then-a-b-lt8
returns-then-a-b-lt8 c = outright (search (join_value, rules))

pub returns-else-a-b-lt8 : goal.returns-else-a-b-lt8
returns-else-a-b-lt8 c = outright (search (join_over, rules))
