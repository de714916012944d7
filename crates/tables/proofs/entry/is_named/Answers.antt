-- `entry::is_named` meets its contract. Assumes nothing.
use borrow.Author.Rules.{rules}
use Rattle.text.proofs.Search.{outright}
use Rattle.tables.proofs.NameLaws.{named_lengths, named_empty, named_otherwise}
use Rattle.tables.proofs.entry.is_named.Goals as goal

pub returns-then-name-other : goal.returns-then-name-other
returns-then-name-other c = outright (search (named_lengths, rules))

pub returns-then-name-eq0 : goal.returns-then-name-eq0
returns-then-name-eq0 c = outright (search (named_empty, rules))

pub returns-then-name-last : goal.returns-then-name-last
returns-then-name-last c = named_otherwise _ _ _ c.if-name-last.true
