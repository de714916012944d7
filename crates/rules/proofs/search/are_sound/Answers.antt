-- `search::are_sound` meets its contract. Assumes nothing.
use borrow.Author.Rules.{rules}
use Rattle.text.proofs.Search.{outright}
use Rattle.rules.proofs.SearchLaws.{sound_answer, sound_doubtful}
use Rattle.rules.proofs.search.are_sound.Goals as goal

pub returns-in-Some : goal.returns-in-Some
returns-in-Some c = outright (search (sound_answer, rules))

pub returns-in-None : goal.returns-in-None
returns-in-None c = outright (search (sound_doubtful, rules))
