-- `authbind::settled` meets its contract. Assumes nothing.
use borrow.Author.Rules.{rules}
use Rattle.text.proofs.Search.{outright}
use Rattle.authbind.proofs.AnswerLaws.{settled_allowed, settled_other, settled_late}
use Rattle.authbind.proofs.settled.Goals as goal

pub returns-then-answer-eq1 : goal.returns-then-answer-eq1
returns-then-answer-eq1 c = outright (search (settled_allowed, rules))

pub returns-then-last : goal.returns-then-last
returns-then-last c = outright (search (settled_other, rules))

pub returns : goal.returns
returns c = outright (search (settled_late, rules))
