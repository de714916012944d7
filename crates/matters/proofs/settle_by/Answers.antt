-- `settle_by` meets its contract. Assumes nothing.
use borrow.Author.Rules.{rules}
use Rattle.text.proofs.Search.{outright}
use Rattle.matters.proofs.CallLaws.{by_granted, by_denied, by_asking}
use Rattle.matters.proofs.settle_by.Goals as goal

pub returns-in-Ask : goal.returns-in-Ask
returns-in-Ask c = outright (search (by_asking, rules))

pub returns-in-Granted : goal.returns-in-Granted
returns-in-Granted c = outright (search (by_granted, rules))

pub returns-in-Denied : goal.returns-in-Denied
returns-in-Denied c = outright (search (by_denied, rules))
