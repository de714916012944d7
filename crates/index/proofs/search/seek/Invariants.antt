-- `search::seek` meets its contract: the loop's invariant is Seeks: the entries that are left decide. Assumes nothing.
use lib.ListN.{length}
use Rattle.rules.specs.FileCode.{query_at}
use Rattle.index.specs.Index.{rules_at}
use Rattle.index.proofs.EntryLaws.{Seeks}
use Rattle.index.proofs.search.seek.Given as goal

abbrev pub invariant-loop-rest : goal.invariant-loop-rest
invariant-loop-rest l = Seeks l.sheet l.part.place l.verdict l.file (query_at l.tables l.notes l.names l.request) (rules_at l.sheet l.part) l.rest l.looked

abbrev pub decreases-loop-rest : goal.decreases-loop-rest
decreases-loop-rest l = length l.rest
