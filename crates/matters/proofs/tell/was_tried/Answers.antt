use Prim.Native.Nat.{◌-◌}
use native.Mathlib.Omega.{arith}
use borrow.Author.Rules.{rules}
use Rattle.text.proofs.Search.{outright}
use Rattle.matters.proofs.HalfLaws.{tried_empty, looking_start, looking_end, looking_within, looking_found, looking_more}
use Rattle.matters.proofs.tell.was_tried.Goals as goal

pub returns-then-h-eq0 : goal.returns-then-h-eq0
returns-then-h-eq0 c = outright (search (tried_empty, rules))

pub loop-k-init : goal.loop-k-init
loop-k-init c = outright (search (looking_start, rules))

pub offset_bounds-places-k : goal.offset_bounds-places-k
offset_bounds-places-k c = outright (search (looking_within, rules))

pub bounds-places-k : goal.bounds-places-k
bounds-places-k c = outright (search (looking_within, rules))

pub overflow_cast-p : goal.overflow_cast-p
overflow_cast-p c = omega (arith, c.type_inv.places (c.loop-k.k - 1))

pub returns-then-equal_fold : goal.returns-then-equal_fold
returns-then-equal_fold c = outright (search (looking_found, rules))

pub loop-k-preserved : goal.loop-k-preserved
loop-k-preserved c = outright (search (looking_more, rules))

pub returns : goal.returns
returns c = outright (search (looking_end, rules))
