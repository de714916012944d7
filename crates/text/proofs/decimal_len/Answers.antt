-- `text::decimal_len` meets its contract: the digits are one more than the power of 10 that fits, and 0 has one.
-- Assumes nothing.
use borrow.Author.Rules.{rules}
use Rattle.text.specs.Number.{numeral}
use Rattle.text.proofs.Writing.{length_decimal}
use Rattle.text.proofs.decimal_len.Goals as goal

pub returns-in-Some : goal.returns-in-Some
returns-in-Some c = search (length_decimal, rules)

pub returns-in-None : goal.returns-in-None
unfolding numeral
returns-in-None c = rw c.in-None.ensures.none
