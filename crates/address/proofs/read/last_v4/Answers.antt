-- `address::read::last_v4` meets its contract: IPv4 text is two groups, which fit where at most six stand before. Assumes nothing.
use native.Mathlib.Omega.{arith}
use borrow.Author.Rules.{rules}
use Rattle.text.proofs.Search.{outright}
use Rattle.address.proofs.RowLaws.{row_room_v4, tail_nothing, tail_full, tail_value}
use Rattle.address.proofs.read.last_v4.Goals as goal

pub push_v4-requires : goal.push_v4-requires
push_v4-requires c = outright (search (row_room_v4, rules))

pub returns-in_err-n : goal.returns-in_err-n
returns-in_err-n c = outright (search (tail_nothing, rules))

pub returns-then-count-eq7 : goal.returns-then-count-eq7
returns-then-count-eq7 c = outright (search (tail_full, rules))

pub returns-else-count-eq7 : goal.returns-else-count-eq7
returns-else-count-eq7 c = let l = rw c.in_ok-n.was at c.read_v4.type_inv in
    tail_value _ _ c.requires.0 c.requires.1 _ _ _ c.read_v4.ensures _ c.in_ok-n.was c.if-count-eq7.false (omega (arith, l)) c.push_v4.ensures
