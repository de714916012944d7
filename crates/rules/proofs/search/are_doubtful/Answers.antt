-- `search::are_doubtful` meets its contract. Assumes nothing.
use borrow.Author.Rules.{rules}
use Rattle.text.proofs.Search.{outright}
use Rattle.rules.proofs.SearchLaws.{doubt_limits, doubt_checked}
use Rattle.rules.proofs.search.are_doubtful.Goals as goal

pub returns-then-are_over : goal.returns-then-are_over
returns-then-are_over c = outright (search (doubt_limits, rules))

pub returns : goal.returns
returns c = outright (search (doubt_checked, rules))
