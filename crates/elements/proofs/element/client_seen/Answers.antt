-- `element::client_seen` meets its contract: the mask tells what is of name bytes. Assumes nothing.
use borrow.Author.Rules.{rules}
use Rattle.text.proofs.Search.{outright}
use Rattle.elements.proofs.SeenLaws.{named_client}
use Rattle.elements.proofs.ToldLaws.{names_told}
use Rattle.elements.proofs.element.client_seen.Goals as goal

pub returns-then-mask-lt8 : goal.returns-then-mask-lt8
returns-then-mask-lt8 c = outright (search (named_client, names_told, rules))
