-- `element::starts_with_sign` meets its contract: by the first byte. Assumes nothing.
use borrow.Author.Rules.{rules}
use Rattle.text.proofs.Search.{outright}
use Rattle.elements.proofs.ElementLaws.{sign_nil, sign_head}
use Rattle.elements.proofs.element.starts_with_sign.Goals as goal

pub returns-then-s-eq0 : goal.returns-then-s-eq0
returns-then-s-eq0 c = outright (search (sign_nil, rules))

pub returns : goal.returns
returns c = outright (search (sign_head, rules))
