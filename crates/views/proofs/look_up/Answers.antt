-- `look_up` meets its contract. Assumes nothing.
use borrow.Author.Rules.{rules}
use Rattle.text.proofs.Search.{outright}
use Rattle.views.proofs.NoteLaws.{look_unjudged, look_missing, look_found}
use Rattle.views.proofs.look_up.Goals as goal

pub returns-then-notes-eq0 : goal.returns-then-notes-eq0
returns-then-notes-eq0 c = outright (search (look_unjudged, rules))

pub returns-in-None : goal.returns-in-None
returns-in-None c = outright (search (look_missing, rules))

pub returns-in-Some : goal.returns-in-Some
returns-in-Some c = outright (search (look_found, rules))
