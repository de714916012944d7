-- `pass::pass_daemons` meets its contract. The invariant: what the list gives is what the pass gives at the end of the rest.
-- The measure is the length of the rest. Assumes nothing.
use lib.ListN.{length}
use Rattle.patterns.specs.Host.{endpoint}
use Rattle.elements.specs.Code.{view_of, daemon_kind}
use Rattle.lists.specs.ListCode.{daemon_finds}
use Rattle.lists.proofs.PassLaws.{Passing}
use Rattle.lists.proofs.pass.pass_daemons.Given as goal

abbrev pub invariant-loop-rest : goal.invariant-loop-rest
invariant-loop-rest l = Passing (daemon_kind (view_of l.tables l.notes)) (daemon_finds (view_of l.tables l.notes) l.daemon (endpoint l.server l.server_name)) l.search l.s l.rest l.p

abbrev pub decreases-loop-rest : goal.decreases-loop-rest
decreases-loop-rest l = length l.rest
