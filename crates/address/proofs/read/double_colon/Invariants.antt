-- `address::read::double_colon` meets its contract. The loop's invariant: no `::` stands before the byte before i.
-- Assumes nothing.
use Prim.Native.Nat.{◌+◌, ◌-◌, ◌≤◌}
use mathlib.Core.Path.{◌≡◌}
use lib.ListN.{length, drop}
use Rattle.text.specs.Text.{bytes}
use Rattle.address.specs.Code.{place_of}
use Rattle.address.proofs.read.double_colon.Given as goal

abbrev pub invariant-loop-i : goal.invariant-loop-i
invariant-loop-i l = (l.i - 1 ≤ length l.s) × (place_of (bytes "::") l.s ≡ l.i - 1 + place_of (bytes "::") (drop (l.i - 1) l.s))
