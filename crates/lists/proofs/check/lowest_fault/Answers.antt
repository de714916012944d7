-- `check::lowest_fault` meets its contract, test by test. Assumes nothing.
use borrow.Author.Rules.{rules}
use Rattle.text.proofs.Search.{outright}
use Rattle.lists.proofs.CheckLaws.{lowest_of_empty, lowest_of_misplaced, lowest_of_reserved, lowest_of_unknown, lowest_of_percent, lowest_of_naming}
use Rattle.lists.proofs.check.lowest_fault.Goals as goal

pub returns-then-d-c : goal.returns-then-d-c
returns-then-d-c c = outright (search (lowest_of_empty, rules))

pub returns-then-d-c-2 : goal.returns-then-d-c-2
returns-then-d-c-2 c = outright (search (lowest_of_misplaced, rules))

pub returns-then-d-c-3 : goal.returns-then-d-c-3
returns-then-d-c-3 c = outright (search (lowest_of_reserved, rules))

pub returns-then-d-c-4 : goal.returns-then-d-c-4
returns-then-d-c-4 c = outright (search (lowest_of_unknown, rules))

pub returns-then-bad : goal.returns-then-bad
returns-then-bad c = outright (search (lowest_of_percent, rules))

pub returns : goal.returns
returns c = outright (search (lowest_of_naming, rules))
