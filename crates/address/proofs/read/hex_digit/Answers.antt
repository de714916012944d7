-- `address::read::hex_digit` meets its contract: the digits, and the letters in lower case. Assumes nothing.
use borrow.Author.Rules.{rules}
use Rattle.text.proofs.Search.{outright}
use Rattle.address.proofs.GroupLaws.{digit_ge, hex_value_digit, hex_value_below, hex_value_above, hex_value_letter}
use Rattle.address.proofs.read.hex_digit.Goals as goal

pub overflow_sub-result : goal.overflow_sub-result
overflow_sub-result c = outright (search (digit_ge, rules))

pub returns-then-is_digit : goal.returns-then-is_digit
returns-then-is_digit c = outright (search (hex_value_digit, rules))

pub returns-then-l-lt97 : goal.returns-then-l-lt97
returns-then-l-lt97 c = outright (search (hex_value_below, rules))

pub returns-then-l-gt102 : goal.returns-then-l-gt102
returns-then-l-gt102 c = outright (search (hex_value_above, rules))

pub returns : goal.returns
returns c = outright (search (hex_value_letter, rules))
