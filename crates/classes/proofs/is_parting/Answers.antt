-- `is_parting` meets its contract: what parts has the one class of 128. Assumes nothing.
use borrow.Author.Rules.{rules}
use Rattle.text.proofs.Search.{outright}
use Rattle.classes.proofs.ClassLaws.{parting_class}
use Rattle.classes.proofs.is_parting.Goals as goal

pub returns : goal.returns
returns c = outright (search (parting_class, rules))
