-- A list that gave a decision is sound, and then the other texts decide whether it stands. Assumes nothing.
use borrow.Author.Rules.{rules}
use Rattle.text.proofs.Search.{outright}
use Rattle.station.proofs.ListLaws.{others_refused, others_sound}
use Rattle.station.proofs.decide_framed.Goals as goal

pub returns-in_err-check_others-in-Ok : goal.returns-in_err-check_others-in-Ok
returns-in_err-check_others-in-Ok c = outright (search (others_refused, rules))

pub returns-in_ok-check_others-in-Ok : goal.returns-in_ok-check_others-in-Ok
returns-in_ok-check_others-in-Ok c = outright (search (others_sound, rules))
