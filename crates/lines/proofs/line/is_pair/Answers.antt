-- `lines::line::is_pair` meets its contract. Past the end stands no newline, so the definition is false there too.
-- Assumes nothing.
use Prim.Native.Nat.{ℕ}
use borrow.Author.Tests.{eq-eqb, ne_eqb}
use lib.ListN.{get_or-eq_default}
use Rattle.lines.specs.Scan.{pair_at}
use Rattle.lines.proofs.line.is_pair.Goals as goal

pub returns-then-s-i-ne92 : goal.returns-then-s-i-ne92
unfolding pair_at
returns-then-s-i-ne92 c = rw (ne_eqb _ _ c.if-s-i-ne92.true)

pub returns-then-k-s : goal.returns-then-k-s
unfolding pair_at
returns-then-k-s c = rw (eq-eqb _ _ c.if-s-i-ne92.false)

pub returns-else-k-s : goal.returns-else-k-s
unfolding pair_at
returns-else-k-s c = rw (eq-eqb _ _ c.if-s-i-ne92.false, get_or-eq_default {A = ℕ} _ 0 c.if-k-s.false)
