-- `tell::tell` meets its contract. Assumes nothing.
use borrow.Author.Rules.{rules}
use Rattle.text.proofs.Search.{outright}
use Rattle.matters.proofs.TellLaws.{both_settled, both_matters, both_ended}
use Rattle.matters.proofs.tell.tell.Goals as goal

pub returns-in-Settled : goal.returns-in-Settled
returns-in-Settled c = outright (search (both_settled, rules))

pub returns-in-Matters : goal.returns-in-Matters
returns-in-Matters c = outright (search (both_matters, rules))

pub returns-in-Nothing : goal.returns-in-Nothing
returns-in-Nothing c = outright (search (both_ended, rules))
