-- `text::read_decimal` meets its contract. The loop's invariant is Reading: the digits passed make n, at most max, and the rest decides.
-- Assumes nothing.
use Rattle.text.proofs.Reading.{Reading}
use Rattle.text.proofs.read_decimal.Given as goal

abbrev pub invariant-loop-b : goal.invariant-loop-b
invariant-loop-b l = Reading l.max l.s l.n l.b-index
