-- `entry::entry_span` meets its contract, count by count. Assumes nothing.
use borrow.Author.Rules.{rules}
use native.Mathlib.Omega.{arith}
use Rattle.text.proofs.Search.{outright}
use Rattle.tables.proofs.EntryLaws.{span_empty, span_short, span_cut, span_whole}
use Rattle.tables.proofs.entry.entry_span.Goals as goal

pub returns-then-s-eq0 : goal.returns-then-s-eq0
returns-then-s-eq0 c = outright (search (span_empty, rules))

pub overflow_cast-name_end : goal.overflow_cast-name_end
overflow_cast-name_end c = omega (arith, c.type_inv.s 0)

pub overflow_add-name_end : goal.overflow_add-name_end
overflow_add-name_end c = omega (arith, c.type_inv.s 0)

pub overflow_add-name_end-2 : goal.overflow_add-name_end-2
overflow_add-name_end-2 c = omega (arith, c.type_inv.s 0)

pub returns-then-s-name_end : goal.returns-then-s-name_end
returns-then-s-name_end c = outright (search (span_short, rules))

pub returns-then-s-name_end-2 : goal.returns-then-s-name_end-2
returns-then-s-name_end-2 c = outright (search (span_cut, rules))

pub returns : goal.returns
returns c = outright (search (span_whole, rules))
