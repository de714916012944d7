-- `element_at` meets its contract: what parts, then the element. Assumes nothing.
use borrow.Author.Rules.{rules}
use Rattle.text.proofs.Search.{outright}
use Rattle.classes.proofs.ClassLaws.{element_at_is}
use Rattle.classes.proofs.element_at.Goals as goal

pub returns : goal.returns
returns c = outright (search (element_at_is, rules))
