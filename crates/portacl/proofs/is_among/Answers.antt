-- `portacl::is_among` meets its contract: the ids are searched by std's `contains`.
-- Assumes nothing.
use borrow.Author.Rules.{rules}
use Rattle.portacl.proofs.EntryLaws.{any_contains}
use Rattle.portacl.proofs.is_among.Goals as goal

pub returns : goal.returns
returns c = search (any_contains, rules)
