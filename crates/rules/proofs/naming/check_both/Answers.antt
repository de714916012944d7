-- `naming::check_both` meets its contract. Assumes nothing.
use borrow.Author.Rules.{rules}
use Rattle.text.proofs.Search.{outright}
use Rattle.rules.proofs.OrderLaws.{both_lines}
use Rattle.rules.proofs.naming.check_both.Goals as goal

pub returns : goal.returns
returns c = outright (search (both_lines, rules))
