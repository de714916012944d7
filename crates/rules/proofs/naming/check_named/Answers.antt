-- `naming::check_named` meets its contract. Assumes nothing.
use borrow.Author.Rules.{rules}
use Rattle.text.proofs.Search.{outright}
use Rattle.rules.proofs.OrderLaws.{named_sound, named_depth, named_misnamed}
use Rattle.rules.proofs.naming.check_named.Goals as goal

pub check_depth-requires : goal.check_depth-requires
check_depth-requires c = outright (search (named_sound, rules))

pub returns-then-found-eq0 : goal.returns-then-found-eq0
returns-then-found-eq0 c = outright (search (named_depth, rules))

pub returns : goal.returns
returns c = outright (search (named_misnamed, rules))
