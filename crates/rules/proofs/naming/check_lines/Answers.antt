-- `naming::check_lines` meets its contract: by no notes. Assumes nothing.
use borrow.Author.Rules.{rules}
use Rattle.text.proofs.Search.{outright}
use Rattle.rules.proofs.OrderLaws.{lines_plain}
use Rattle.rules.proofs.naming.check_lines.Goals as goal

pub returns : goal.returns
returns c = outright (search (lines_plain, rules))
