-- `sheet::frame::read_count` meets its contract: a byte is below 256.
-- Assumes nothing.
use native.Mathlib.Omega.{arith}
use borrow.Author.Rules.{rules}
use Rattle.text.proofs.Search.{outright}
use Rattle.sheet.proofs.ReadLaws.{count_of_four}
use Rattle.sheet.proofs.frame.read_count.Goals as goal

pub overflow_cast-first : goal.overflow_cast-first
overflow_cast-first c = omega (arith, c.type_inv.s 0)

pub overflow_cast-second : goal.overflow_cast-second
overflow_cast-second c = omega (arith, c.type_inv.s 1)

pub overflow_cast-third : goal.overflow_cast-third
overflow_cast-third c = omega (arith, c.type_inv.s 2)

pub overflow_cast-fourth : goal.overflow_cast-fourth
overflow_cast-fourth c = omega (arith, c.type_inv.s 3)

pub overflow_mul-result : goal.overflow_mul-result
overflow_mul-result c = omega (arith, c.type_inv.s 0, c.type_inv.s 1, c.type_inv.s 2, c.type_inv.s 3)

pub overflow_add-result : goal.overflow_add-result
overflow_add-result c = omega (arith, c.type_inv.s 0, c.type_inv.s 1, c.type_inv.s 2, c.type_inv.s 3)

pub overflow_mul-result-2 : goal.overflow_mul-result-2
overflow_mul-result-2 c = omega (arith, c.type_inv.s 0, c.type_inv.s 1, c.type_inv.s 2, c.type_inv.s 3)

pub overflow_add-result-2 : goal.overflow_add-result-2
overflow_add-result-2 c = omega (arith, c.type_inv.s 0, c.type_inv.s 1, c.type_inv.s 2, c.type_inv.s 3)

pub overflow_mul-result-3 : goal.overflow_mul-result-3
overflow_mul-result-3 c = omega (arith, c.type_inv.s 0, c.type_inv.s 1, c.type_inv.s 2, c.type_inv.s 3)

pub overflow_add-result-3 : goal.overflow_add-result-3
overflow_add-result-3 c = omega (arith, c.type_inv.s 0, c.type_inv.s 1, c.type_inv.s 2, c.type_inv.s 3)

pub returns : goal.returns
returns c = outright (search (count_of_four, rules))
