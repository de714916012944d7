-- `rules::answered` meets its contract.
-- Assumes nothing.
use borrow.Author.Rules.{rules}
use Rattle.text.proofs.Search.{outright}
use Rattle.rules.proofs.DecideLaws.{request_refused, request_sound}
use Rattle.rules.proofs.answered.Goals as goal

pub returns-then-sound : goal.returns-then-sound
returns-then-sound c = outright (search (request_sound, rules))

pub returns-else-sound : goal.returns-else-sound
returns-else-sound c = outright (search (request_refused, rules))
