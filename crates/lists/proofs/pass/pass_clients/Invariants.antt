-- `pass::pass_clients` meets its contract. The invariant: what the list gives is what the pass gives at the end of the rest.
-- The measure is the length of the rest. Assumes nothing.
use lib.ListN.{length}
use Rattle.patterns.specs.Host.{endpoint}
use Rattle.elements.specs.Code.{view_of, client_kind}
use Rattle.lists.specs.ListCode.{client_finds}
use Rattle.lists.proofs.PassLaws.{Passing}
use Rattle.lists.proofs.pass.pass_clients.Given as goal

abbrev pub invariant-loop-rest : goal.invariant-loop-rest
invariant-loop-rest l = Passing (client_kind (view_of l.tables l.notes)) (client_finds (view_of l.tables l.notes) (endpoint l.client l.client_name) l.user l.user_name) l.search l.s l.rest l.p

abbrev pub decreases-loop-rest : goal.decreases-loop-rest
decreases-loop-rest l = length l.rest
