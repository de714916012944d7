-- `text::index_of` meets its contract. The loop's invariant: the place is i further than the place in what is left from i on.
-- Assumes nothing.
use Prim.Native.Nat.{◌+◌}
use mathlib.Core.Path.{◌≡◌}
use lib.ListN.{drop}
use Rattle.text.specs.Scan.{index_of}
use Rattle.text.proofs.index_of.Given as goal

abbrev pub invariant-loop-i : goal.invariant-loop-i
invariant-loop-i l = index_of l.b l.s ≡ l.i + index_of l.b (drop l.i l.s)
