-- `search::find` meets its contract. Assumes nothing.
use borrow.Author.Rules.{rules}
use Rattle.text.proofs.Search.{outright}
use Rattle.rules.proofs.SearchLaws.{few_of, found_over, found_short}
use Rattle.rules.proofs.search.find.Goals as goal

pub returns-then-tables-le2 : goal.returns-then-tables-le2
returns-then-tables-le2 c = outright (search (found_short, rules))

pub returns-then-are_over : goal.returns-then-are_over
returns-then-are_over c = outright (search (found_over, rules))

pub find_among-requires : goal.find_among-requires
find_among-requires c = outright (search (few_of, rules))
