-- `tidy::same::element_span` meets its contract: the two lengths. Assumes nothing.
use borrow.Author.Rules.{rules}
use Rattle.text.proofs.Search.{outright}
use Rattle.tidy.proofs.ListLaws.{span_is}
use Rattle.tidy.proofs.same.element_span.Goals as goal

pub returns : goal.returns
returns c = outright (search (span_is, rules))
