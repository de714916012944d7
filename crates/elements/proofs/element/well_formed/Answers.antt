-- `elements::element::well_formed` meets its contract. The four tests are those of the definition. Assumes nothing.
use borrow.Author.Rules.{rules}
use Rattle.text.proofs.Search.{outright}
use Rattle.elements.proofs.ElementLaws.{well_formed_fits}
use Rattle.elements.proofs.element.well_formed.Goals as goal

pub returns : goal.returns
returns c = outright (search (well_formed_fits, rules))
