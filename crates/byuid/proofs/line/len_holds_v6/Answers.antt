-- `byuid::line::len_holds_v6` meets its contract. A net holds the numbers that agree with its first in as many bits: one law over the width, here 128.
-- Assumes nothing.
use borrow.Author.Rules.{rules}
use Rattle.text.proofs.Search.{outright}
use Rattle.byuid.proofs.NumberLaws.{len_le, len_nothing, len_clear, len_set}
use Rattle.byuid.proofs.line.len_holds_v6.Goals as goal

pub clear_beyond_v6-requires : goal.clear_beyond_v6-requires
clear_beyond_v6-requires c = outright (search (len_le, rules))

pub same_prefix_v6-requires : goal.same_prefix_v6-requires
same_prefix_v6-requires c = len_le _ _ _ c.read_decimal.ensures _ c.in_ok-n.was

pub returns-in_err-n : goal.returns-in_err-n
returns-in_err-n c = outright (search (len_nothing, rules))

pub returns-then-clear_beyond_v6 : goal.returns-then-clear_beyond_v6
returns-then-clear_beyond_v6 c = len_clear _ _ _ _ _ c.read_decimal.ensures _ c.in_ok-n.was _ c.clear_beyond_v6.ensures c.if-clear_beyond_v6.true _ c.same_prefix_v6.ensures

pub returns-else-clear_beyond_v6 : goal.returns-else-clear_beyond_v6
returns-else-clear_beyond_v6 c = outright (search (len_set, rules))
