-- `check::list_fault` meets its contract: it computes the definition's fields. Assumes nothing.
use borrow.Author.Rules.{rules}
use Rattle.text.proofs.Search.{outright}
use Rattle.lists.proofs.CheckLaws.{list_more_is}
use Rattle.lists.proofs.check.list_fault.Goals as goal

pub returns : goal.returns
returns c = outright (search (list_more_is, rules))
