-- `search::rule_answer` meets its contract. Assumes nothing.
use borrow.Author.Rules.{rules}
use Rattle.text.proofs.Search.{outright}
use Rattle.index.proofs.EntryLaws.{answers_no, answers_ask, answers_yes}
use Rattle.index.proofs.search.rule_answer.Goals as goal

pub returns-in-No : goal.returns-in-No
returns-in-No c = outright (search (answers_no, answers_ask, answers_yes, rules))

pub returns-in-Ask : goal.returns-in-Ask
returns-in-Ask c = outright (search (answers_no, answers_ask, answers_yes, rules))

pub returns-in-Yes : goal.returns-in-Yes
returns-in-Yes c = outright (search (answers_no, answers_ask, answers_yes, rules))
