-- `text::put_decimal` meets its contract. The loop's invariant is Written: the digits from the j-th on are written, and m is what is left before them.
-- Assumes nothing.
use Rattle.text.proofs.Writing.{Written}
use Rattle.text.proofs.put_decimal.Given as goal

abbrev pub invariant-loop-j : goal.invariant-loop-j
invariant-loop-j l = Written l.initial.out l.out l.at l.n l.m l.j
