-- `refuse` meets its contract. Assumes nothing.
use borrow.Author.Rules.{rules}
use Rattle.text.proofs.Search.{outright}
use Rattle.matters.proofs.CallLaws.{refuse_refused, refuse_answered}
use Rattle.matters.proofs.refuse.Goals as goal

pub returns-in_err-ruling : goal.returns-in_err-ruling
returns-in_err-ruling c = outright (search (refuse_refused, rules))

pub returns : goal.returns
returns c = outright (search (refuse_answered, rules))
