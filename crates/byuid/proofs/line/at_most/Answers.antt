-- `byuid::line::at_most` meets its contract: the high words decide, and the low ones where those are equal. Assumes nothing.
use borrow.Author.Rules.{rules}
use Rattle.text.proofs.Search.{outright}
use Rattle.byuid.proofs.NumberLaws.{words_same, words_differ}
use Rattle.byuid.proofs.line.at_most.Goals as goal

pub returns-then-a_high-b_high : goal.returns-then-a_high-b_high
returns-then-a_high-b_high c = outright (search (words_same, rules))

pub returns : goal.returns
returns c = outright (search (words_differ, rules))
