-- `authbind::is_left_out` meets its contract, by the kind of address. Assumes nothing.
use borrow.Author.Rules.{rules}
use Rattle.text.proofs.Search.{outright}
use Rattle.authbind.proofs.StepLaws.{left_out_v6}
use Rattle.authbind.proofs.is_left_out.Goals as goal

pub returns-in-V6 : goal.returns-in-V6
returns-in-V6 c = outright (search (left_out_v6, rules))
