-- `search::find_among` meets its contract. Assumes nothing.
use borrow.Author.Rules.{rules}
use Rattle.text.proofs.Search.{outright}
use Rattle.rules.proofs.SearchLaws.{found_doubtful, found_answer}
use Rattle.rules.proofs.search.find_among.Goals as goal

pub returns-then-are_doubtful : goal.returns-then-are_doubtful
returns-then-are_doubtful c = outright (search (found_doubtful, rules))

pub returns : goal.returns
returns c = outright (search (found_answer, rules))
