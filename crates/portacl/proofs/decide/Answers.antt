-- `portacl::decide` meets its contract: each test and each thing that was found is a case of the definition.
-- Assumes nothing.
use Rattle.portacl.proofs.DecideLaws.{decide_over_lem, decide_unsound, decide_many, decide_bad, decide_answer}
use borrow.Author.Rules.{rules}
use Rattle.text.proofs.Search.{outright}
use Rattle.portacl.proofs.decide.Goals as goal

pub returns-then-over : goal.returns-then-over
returns-then-over c = outright (search (decide_over_lem, rules))

pub returns-in_err-check : goal.returns-in_err-check
returns-in_err-check c = outright (search (decide_unsound, rules))

pub returns-then-groups-gt16 : goal.returns-then-groups-gt16
returns-then-groups-gt16 c = outright (search (decide_many, rules))

pub returns-in-Err : goal.returns-in-Err
returns-in-Err c = outright (search (decide_bad, rules))

pub returns-in-Ok : goal.returns-in-Ok
returns-in-Ok c = outright (search (decide_answer, rules))
