-- src/lib.rt:86:8
-- src/lib.rt:87:35
-- src/lib.rt:87:9
-- src/lib.rt:87:9
-- src/lib.rt:87:9
-- src/lib.rt:80:1
use Rattle.carry.proofs.SpanLaws.{room_there, put_there, put_none}
use borrow.Author.Rules.{rules}
use Rattle.text.proofs.Search.{outright}
use Rattle.carry.proofs.put_port.Goals as goal

pub put_lines-requires : goal.put_lines-requires
put_lines-requires c = outright (search (room_there, rules))

pub returns-then-is_in_both : goal.returns-then-is_in_both
returns-then-is_in_both c = let both = put_there _ _ _ c.is_in_both.ensures c.if-is_in_both.true _ _ _ _
    (c.put_lines.ensures.next, c.put_lines.ensures.written) in record { next = both.0; written = both.1 }

pub returns : goal.returns
returns c = let both = put_none _ _ _ c.is_in_both.ensures c.if-is_in_both.false _ _ in record { next = both.0; written = both.1 }
