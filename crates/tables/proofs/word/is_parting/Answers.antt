-- `word::is_parting` meets its contract. Assumes nothing.
use borrow.Author.Rules.{rules}
use Rattle.text.proofs.Search.{outright}
use Rattle.tables.proofs.WordLaws.{parting_is}
use Rattle.tables.proofs.word.is_parting.Goals as goal

pub returns : goal.returns
returns c = outright (search (parting_is, rules))
