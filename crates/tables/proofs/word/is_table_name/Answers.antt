-- `word::is_table_name` meets its contract. Assumes nothing.
use borrow.Author.Rules.{rules}
use Rattle.text.proofs.Search.{outright}
use Rattle.tables.proofs.WordLaws.{name_empty, name_over, name_is}
use Rattle.tables.proofs.word.is_table_name.Goals as goal

pub returns-then-n-eq0 : goal.returns-then-n-eq0
returns-then-n-eq0 c = outright (search (name_empty, rules))

pub returns-then-n-gt64 : goal.returns-then-n-gt64
returns-then-n-gt64 c = outright (search (name_over, rules))

pub returns : goal.returns
returns c = outright (search (name_is, rules))
