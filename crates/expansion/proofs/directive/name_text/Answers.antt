-- `directive::name_text` meets its contract, by the state. Assumes nothing.
use borrow.Author.Rules.{rules}
use Rattle.text.proofs.Search.{outright}
use Rattle.expansion.proofs.TextLaws.{name_known_lem}
use Rattle.expansion.proofs.directive.name_text.Goals as goal

pub returns-in-Known : goal.returns-in-Known
returns-in-Known c = outright (search (name_known_lem, rules))
