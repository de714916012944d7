-- `pass::clients_negated` meets its contract, side by side. Assumes nothing.
use borrow.Author.Rules.{rules}
use Rattle.text.proofs.Search.{outright}
use Rattle.lists.proofs.PassLaws.{negated_looking, negated_matched, negated_no, negated_yes, negated_ask}
use Rattle.lists.proofs.pass.clients_negated.Goals as goal

pub returns-in-Looking : goal.returns-in-Looking
returns-in-Looking c = outright (search (negated_looking, rules))

pub returns-in-Matched : goal.returns-in-Matched
returns-in-Matched c = outright (search (negated_matched, rules))

pub returns-in-No : goal.returns-in-No
returns-in-No c = outright (search (negated_no, rules))

pub returns-in-Yes : goal.returns-in-Yes
returns-in-Yes c = outright (search (negated_yes, rules))

pub returns-in-Ask : goal.returns-in-Ask
returns-in-Ask c = outright (search (negated_ask, rules))
