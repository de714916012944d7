-- `naming::check_depth` meets its contract. Assumes nothing.
use borrow.Author.Rules.{rules}
use Rattle.text.proofs.Search.{outright}
use Rattle.rules.proofs.OrderLaws.{depth_checked}
use Rattle.rules.proofs.naming.check_depth.Goals as goal

pub check_soundness-requires : goal.check_soundness-requires
check_soundness-requires c = outright (search (rules))

pub returns : goal.returns
returns c = outright (search (depth_checked, rules))
