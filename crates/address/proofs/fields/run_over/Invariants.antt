-- `fields::run_over` meets its contract. The loop's invariant is `Running`: the pass from i on is the pass from j on, in the state there.
-- Assumes nothing.
use Rattle.address.proofs.FieldLaws.{Running}
use Rattle.address.proofs.fields.run_over.Given as goal

abbrev pub invariant-loop-j : goal.invariant-loop-j
invariant-loop-j l = Running l.e l.i l.j l.n l.k l.v l.begun
