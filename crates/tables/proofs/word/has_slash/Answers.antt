-- `word::has_slash` meets its contract. Assumes nothing.
use borrow.Author.Rules.{rules}
use Rattle.text.proofs.Search.{outright}
use Rattle.tables.proofs.WordLaws.{slash_none, slash_is}
use Rattle.tables.proofs.word.has_slash.Goals as goal

pub returns-then-w-eq0 : goal.returns-then-w-eq0
returns-then-w-eq0 c = outright (search (slash_none, rules))

pub returns : goal.returns
returns c = outright (search (slash_is, rules))
