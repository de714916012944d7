-- `name_leads` meets its contract. Assumes nothing.
use borrow.Author.Rules.{rules}
use Rattle.text.proofs.Search.{outright}
use Rattle.views.proofs.NoteLaws.{leads_missing, leads_found}
use Rattle.views.proofs.name_leads.Goals as goal

pub returns-in-None : goal.returns-in-None
returns-in-None c = outright (search (leads_missing, rules))

pub returns-in-Some : goal.returns-in-Some
returns-in-Some c = outright (search (leads_found, rules))
