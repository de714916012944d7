-- `answers::put_all` meets its contract: the loop's invariant is Answering: the answers to the requests so far stand at the front. Assumes nothing.
use lib.ListN.{length}
use Rattle.index.specs.Index.{read_requests}
use Rattle.index.proofs.AnswerLaws.{Answering}
use Rattle.index.proofs.answers.put_all.Given as goal

abbrev pub invariant-loop-rest : goal.invariant-loop-rest
invariant-loop-rest l = Answering l.sheet (read_requests l.requests) l.initial.out l.out l.at l.rest

abbrev pub decreases-loop-rest : goal.decreases-loop-rest
decreases-loop-rest l = length l.rest
