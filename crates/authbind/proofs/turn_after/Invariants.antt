-- `authbind::turn_after` meets its contract. The loop's invariant is Turns: the answers passed are all absent. Assumes nothing.
use Rattle.authbind.proofs.AnswerLaws.{Turns}
use Rattle.authbind.proofs.turn_after.Given as goal

abbrev pub invariant-loop-i : goal.invariant-loop-i
invariant-loop-i l = Turns l.answers l.tests l.i
