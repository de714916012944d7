-- `tell::halves_agree` meets its contract. The invariant: all of the list agree exactly if all of the rest do, and every noted half agrees.
-- The measure is the length of the rest. Assumes nothing.
use lib.ListN.{length}
use Rattle.elements.specs.Code.{view_of}
use Rattle.elements.specs.Places.{request_at}
use Rattle.matters.proofs.HalfLaws.{Trying}
use Rattle.matters.proofs.tell.halves_agree.Given as goal

abbrev pub invariant-loop-rest : goal.invariant-loop-rest
invariant-loop-rest l = Trying (view_of l.tables l.notes) (request_at l.names l.request) l.f l.s l.rest l.places l.n

abbrev pub decreases-loop-rest : goal.decreases-loop-rest
decreases-loop-rest l = length l.rest
