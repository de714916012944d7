-- `requests::count_requests` meets its contract: the loop's invariant is Parting: so many requests stand before the rest. Assumes nothing.
use Prim.Native.Nat.{◌-◌}
use Rattle.index.proofs.RequestLaws.{Parting}
use Rattle.index.proofs.requests.count_requests.Given as goal

abbrev pub invariant-loop-rest : goal.invariant-loop-rest
invariant-loop-rest l = Parting l.bytes l.rest l.count

abbrev pub decreases-loop-rest : goal.decreases-loop-rest
decreases-loop-rest l = 32 - l.count
