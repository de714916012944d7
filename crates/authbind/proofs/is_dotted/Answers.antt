-- `authbind::is_dotted` meets its contract: the upper half of such an address is zero. Assumes nothing.
use borrow.Author.Rules.{rules}
use Rattle.text.proofs.Search.{outright}
use Rattle.authbind.proofs.StepLaws.{is_dotted_lem}
use Rattle.authbind.proofs.is_dotted.Goals as goal

pub returns : goal.returns
returns c = outright (search (is_dotted_lem, rules))
