-- `address::read::pad` meets its contract. The loop's invariant is Padded: n is w and as many zero groups as were added.
-- Assumes nothing.
use Rattle.address.proofs.WordLaws.{Padded}
use Rattle.address.proofs.read.pad.Given as goal

abbrev pub invariant-loop : goal.invariant-loop
invariant-loop l = Padded l.initial.n l.count l.n l.counter
