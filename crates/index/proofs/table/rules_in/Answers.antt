-- `table::rules_in` meets its contract. Assumes nothing.
use borrow.Author.Rules.{rules}
use Rattle.text.proofs.Search.{outright}
use Rattle.index.proofs.TableLaws.{rules_one, rules_none}
use Rattle.index.proofs.table.rules_in.Goals as goal

pub returns-then-here : goal.returns-then-here
returns-then-here c = outright (search (rules_one, rules))

pub returns : goal.returns
returns c = outright (search (rules_none, rules))
