-- `elements::element::name_fits` meets its contract. The tests of the length and of the bytes are those of the definition. Assumes nothing.
use borrow.Author.Rules.{rules}
use Rattle.text.proofs.Search.{outright}
use Rattle.elements.proofs.ElementLaws.{name_fits_empty, name_fits_long, name_fits_name}
use Rattle.elements.proofs.element.name_fits.Goals as goal

pub returns-then-t-eq0 : goal.returns-then-t-eq0
returns-then-t-eq0 c = outright (search (name_fits_empty, rules))

pub returns-then-t-gt64 : goal.returns-then-t-gt64
returns-then-t-gt64 c = outright (search (name_fits_long, rules))

pub returns : goal.returns
returns c = outright (search (name_fits_name, rules))
