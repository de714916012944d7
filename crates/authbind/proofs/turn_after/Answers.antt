use borrow.Author.Rules.{rules}
use Rattle.text.proofs.Search.{outright}
use Rattle.authbind.proofs.AnswerLaws.{turns_late, turns_settled, turns_more, turns_test, turns_byuid}
use Rattle.authbind.proofs.turn_after.Goals as goal

pub loop-i-init : goal.loop-i-init
loop-i-init c = outright (search (rules))

pub returns-then-tests-i : goal.returns-then-tests-i
returns-then-tests-i c = outright (search (turns_late, rules))

pub returns-then-answer-ne0 : goal.returns-then-answer-ne0
returns-then-answer-ne0 c = outright (search (turns_settled, rules))

pub loop-i-preserved : goal.loop-i-preserved
loop-i-preserved c = outright (search (turns_more, rules))

pub returns-then-answers-tests : goal.returns-then-answers-tests
returns-then-answers-tests c = outright (search (turns_test, rules))

pub returns : goal.returns
returns c = outright (search (turns_byuid, rules))
