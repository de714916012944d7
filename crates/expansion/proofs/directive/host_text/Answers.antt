-- `directive::host_text` meets its contract, by the state. Assumes nothing.
use borrow.Author.Rules.{rules}
use Rattle.text.proofs.Search.{outright}
use Rattle.expansion.proofs.TextLaws.{host_unknown, host_paranoid, host_name}
use Rattle.expansion.proofs.directive.host_text.Goals as goal

pub returns-in-Unknown : goal.returns-in-Unknown
returns-in-Unknown c = outright (search (host_unknown, rules))

pub returns-in-Paranoid : goal.returns-in-Paranoid
returns-in-Paranoid c = outright (search (host_paranoid, rules))

pub returns-in-Known : goal.returns-in-Known
returns-in-Known c = outright (search (host_name, rules))
