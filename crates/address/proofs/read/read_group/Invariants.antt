-- `address::read::read_group` meets its contract. The loop's invariant is HexDigits: the digits passed make n, and the rest decides.
-- Assumes nothing.
use Rattle.address.proofs.GroupLaws.{HexDigits}
use Rattle.address.proofs.read.read_group.Given as goal

abbrev pub invariant-loop-b : goal.invariant-loop-b
invariant-loop-b l = HexDigits l.s l.n l.b-index
