-- `authbind::put_mark` meets its contract. Assumes nothing.
use borrow.Author.Rules.{rules}
use Rattle.text.proofs.Search.{outright}
use Rattle.authbind.proofs.NameLaws.{mark_room, marked, unmarked}
use Rattle.authbind.proofs.put_mark.Goals as goal

pub put-requires : goal.put-requires
put-requires c = outright (search (mark_room, rules))

pub returns-then-port : goal.returns-then-port
returns-then-port c = let both = marked _ c.args.port _ c.if-port.true _ _
    (c.put.ensures.next, c.put.ensures.written) in record { next = both.0; written = both.1 }

pub returns : goal.returns
returns c = let both = unmarked _ c.args.port _ c.if-port.false in record { next = both.0; written = both.1 }
