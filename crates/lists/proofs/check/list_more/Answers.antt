-- `check::list_more` meets its contract: by what is wrong with the element. Assumes nothing.
use borrow.Author.Rules.{rules}
use Rattle.text.proofs.Search.{outright}
use Rattle.lists.proofs.CheckLaws.{sound_except, sound_element_lem}
use Rattle.lists.proofs.check.list_more.Goals as goal

pub returns-then-x : goal.returns-then-x
returns-then-x c = outright (search (sound_except, rules))

pub returns-else-x : goal.returns-else-x
returns-else-x c = outright (search (sound_element_lem, rules))
