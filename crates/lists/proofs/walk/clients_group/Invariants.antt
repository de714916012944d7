-- `walk::clients_group` meets its contract, by the laws of the walk at what a client element finds. The invariant of its loop: the list finds
-- what its rest finds, and counts what was looked at besides. Assumes nothing.
use lib.ListN.{length}
use Rattle.patterns.specs.Host.{endpoint}
use Rattle.elements.specs.Code.{view_of}
use Rattle.lists.specs.ListCode.{client_finds, client_counts, list_looked}
use Rattle.lists.proofs.WalkLaws.{Walked}
use Rattle.lists.proofs.walk.clients_group.Given as goal

abbrev pub invariant-loop-rest : goal.invariant-loop-rest
invariant-loop-rest l = Walked (list_looked (client_finds (view_of l.tables l.notes) (endpoint l.client l.client_name) l.user l.user_name) (client_counts (view_of l.tables l.notes))) l.s l.rest l.looked

abbrev pub decreases-loop-rest : goal.decreases-loop-rest
decreases-loop-rest l = length l.rest
