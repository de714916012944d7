-- `word::word_span` meets its contract. Assumes nothing.
use borrow.Author.Rules.{rules}
use Rattle.text.proofs.Search.{outright}
use Rattle.tables.proofs.WordLaws.{span_is}
use Rattle.tables.proofs.word.word_span.Goals as goal

pub returns : goal.returns
returns c = outright (search (span_is, rules))
