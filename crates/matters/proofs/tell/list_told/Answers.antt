-- `tell::list_told` meets its contract. Assumes nothing.
use borrow.Author.Rules.{rules}
use Rattle.text.proofs.Search.{outright}
use Rattle.matters.proofs.TellLaws.{list_no, list_yes, list_ask}
use Rattle.matters.proofs.tell.list_told.Goals as goal

pub returns-in-No : goal.returns-in-No
returns-in-No c = outright (search (list_no, rules))

pub returns-in-Yes : goal.returns-in-Yes
returns-in-Yes c = outright (search (list_yes, rules))

pub returns-in-Ask : goal.returns-in-Ask
returns-in-Ask c = outright (search (list_ask, rules))
