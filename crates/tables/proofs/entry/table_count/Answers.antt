-- `entry::table_count` meets its contract: a byte is below 256. Assumes nothing.
use native.Mathlib.Omega.{arith}
use borrow.Author.Rules.{rules}
use Rattle.text.proofs.Search.{outright}
use Rattle.tables.proofs.EntryLaws.{table_count_none, table_count_some}
use Rattle.tables.proofs.entry.table_count.Goals as goal

pub returns-then-tables-lt2 : goal.returns-then-tables-lt2
returns-then-tables-lt2 c = outright (search (table_count_none, rules))

pub overflow_cast-first : goal.overflow_cast-first
overflow_cast-first c = omega (arith, c.type_inv.tables 0)

pub overflow_cast-second : goal.overflow_cast-second
overflow_cast-second c = omega (arith, c.type_inv.tables 1)

pub overflow_mul-result : goal.overflow_mul-result
overflow_mul-result c = omega (arith, c.type_inv.tables 0, c.type_inv.tables 1)

pub overflow_add-result : goal.overflow_add-result
overflow_add-result c = omega (arith, c.type_inv.tables 0, c.type_inv.tables 1)

pub returns : goal.returns
returns c = outright (search (table_count_some, rules))
