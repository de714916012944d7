-- `address_format::longest_run` meets its contract. The loop's invariant is Runs: the zeros that stand at place i, and the first of the longest
-- runs from there on. Assumes nothing.
use Rattle.address_format.proofs.WriteRuns.{Runs}
use Rattle.address_format.proofs.longest_run.Given as goal

abbrev pub invariant-loop-i : goal.invariant-loop-i
invariant-loop-i l = Runs l.gs l.i l.zeros l.best
