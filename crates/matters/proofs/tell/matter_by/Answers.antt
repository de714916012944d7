-- `tell::matter_by` meets its contract. Assumes nothing.
use borrow.Author.Rules.{rules}
use Rattle.text.proofs.Search.{outright}
use Rattle.matters.proofs.TellLaws.{ended_nothing, ended_settled, ended_matters}
use Rattle.matters.proofs.tell.matter_by.Goals as goal

pub returns-in-Nothing : goal.returns-in-Nothing
returns-in-Nothing c = outright (search (ended_nothing, rules))

pub returns-in-Settled : goal.returns-in-Settled
returns-in-Settled c = outright (search (ended_settled, rules))

pub returns-in-Matters : goal.returns-in-Matters
returns-in-Matters c = outright (search (ended_matters, rules))
