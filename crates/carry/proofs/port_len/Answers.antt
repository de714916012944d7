-- `carry::port_len` meets its contract: two lines of 17 bytes and the port's digits twice. Assumes nothing.
use native.Mathlib.Omega.{arith}
use Rattle.carry.proofs.SpanLaws.{len_there, len_none, few_digits, ten_digits}
use borrow.Author.Rules.{rules}
use Rattle.carry.proofs.port_len.Goals as goal

pub overflow_mul-result : goal.overflow_mul-result
overflow_mul-result c = omega (arith, ten_digits _ _ c.decimal_len.ensures)

pub overflow_add-result : goal.overflow_add-result
overflow_add-result c = omega (arith, ten_digits _ _ c.decimal_len.ensures)

pub returns-then-is_in_both : goal.returns-then-is_in_both
returns-then-is_in_both c = record { count = search (len_there, rules); few = search (few_digits, rules) }

pub returns : goal.returns
returns c = record { count = search (len_none, rules); few = search rules }
