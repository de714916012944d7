use native.Mathlib.Omega.{arith}
use borrow.Author.Rules.{rules}
use Rattle.text.proofs.Search.{outright}
use Rattle.address.proofs.GroupLaws.{group_empty, group_long, hex_start, hex_none, hex_mul, hex_add, hex_step, hex_done}
use Rattle.address.proofs.read.read_group.Goals as goal

pub returns-then-s-eq0 : goal.returns-then-s-eq0
returns-then-s-eq0 c = outright (search (group_empty, rules))

pub returns-then-s-gt4 : goal.returns-then-s-gt4
returns-then-s-gt4 c = outright (search (group_long, rules))

pub loop-b-init : goal.loop-b-init
loop-b-init c = outright (search (hex_start, rules))

pub returns-then-d-eq16 : goal.returns-then-d-eq16
returns-then-d-eq16 c = outright (search (hex_none, rules))

pub overflow_mul-n : goal.overflow_mul-n
overflow_mul-n c = omega (arith, hex_mul _ _ _ c.loop-b.invariant (search rules) (search rules))

pub overflow_add-n : goal.overflow_add-n
overflow_add-n c = record { fits = search (hex_add, rules) }

pub loop-b-preserved : goal.loop-b-preserved
loop-b-preserved c = outright (search (hex_step, rules))

pub returns : goal.returns
returns c = outright (search (hex_done, rules))
