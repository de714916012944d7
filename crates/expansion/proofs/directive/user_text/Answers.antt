-- `directive::user_text` meets its contract, by the state. Assumes nothing.
use borrow.Author.Rules.{rules}
use Rattle.text.proofs.Search.{outright}
use Rattle.expansion.proofs.TextLaws.{user_named}
use Rattle.expansion.proofs.directive.user_text.Goals as goal

pub returns-in-Known : goal.returns-in-Known
returns-in-Known c = outright (search (user_named, rules))
