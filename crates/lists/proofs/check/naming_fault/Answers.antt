-- `check::naming_fault` meets its contract, test by test. Assumes nothing.
use borrow.Author.Rules.{rules}
use Rattle.text.proofs.Search.{outright}
use Rattle.lists.proofs.CheckLaws.{naming_fault_of_missing, naming_fault_of_deep, naming_fault_of_sound}
use Rattle.lists.proofs.check.naming_fault.Goals as goal

pub returns-then-d-c : goal.returns-then-d-c
returns-then-d-c c = outright (search (naming_fault_of_missing, rules))

pub returns-then-d-c-2 : goal.returns-then-d-c-2
returns-then-d-c-2 c = outright (search (naming_fault_of_deep, rules))

pub returns : goal.returns
returns c = outright (search (naming_fault_of_sound, rules))
