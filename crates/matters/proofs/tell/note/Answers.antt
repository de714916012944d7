-- `tell::note` meets its contract. Assumes nothing.
use Rattle.matters.proofs.HalfLaws.{note_full, note_far, note_long, note_in}
use Rattle.matters.proofs.tell.note.Goals as goal

pub returns-then-places-n : goal.returns-then-places-n
returns-then-places-n c = let both = note_full c.args.places.now c.args.n c.args.at c.args.len c.if-places-n.true in
    record { count = both.0; holds = both.1 }

pub returns-then-at-ge65536 : goal.returns-then-at-ge65536
returns-then-at-ge65536 c = let both = note_far c.args.places.now c.args.n c.args.at c.args.len c.if-places-n.false c.if-at-ge65536.true in
    record { count = both.0; holds = both.1 }

pub returns-then-len-ge65536 : goal.returns-then-len-ge65536
returns-then-len-ge65536 c = let both = note_long c.args.places.now c.args.n c.args.at c.args.len c.if-places-n.false
    c.if-at-ge65536.false c.if-len-ge65536.true in record { count = both.0; holds = both.1 }

pub returns : goal.returns
returns c = let both = note_in c.args.places.now c.args.n c.args.at c.args.len c.if-places-n.false
    c.if-at-ge65536.false c.if-len-ge65536.false in record { count = both.0; holds = both.1 }
