-- `search::rule_finds` meets its contract. Assumes nothing.
use borrow.Author.Rules.{rules}
use Rattle.text.proofs.Search.{outright}
use Rattle.index.proofs.EntryLaws.{entry_no, entry_ask, entry_yes}
use Rattle.index.proofs.search.rule_finds.Goals as goal

pub returns-in-No : goal.returns-in-No
returns-in-No c = outright (search (entry_no, entry_ask, rules))

pub returns-in-Ask : goal.returns-in-Ask
returns-in-Ask c = outright (search (entry_ask, entry_no, rules))

pub returns-in-Yes : goal.returns-in-Yes
returns-in-Yes c = outright (search (entry_yes, rules))
