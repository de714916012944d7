use borrow.Author.Rules.{rules}
use Rattle.views.proofs.NoteLaws.{leads_end, leads_here, leads_next}
use Rattle.tables.proofs.WordLaws.{rest_shorter}
use Rattle.text.proofs.Search.{outright}
use Rattle.views.proofs.leads.Goals as goal

pub returns-then-w-eq0 : goal.returns-then-w-eq0
returns-then-w-eq0 c = outright (search (leads_end, rules))

pub returns-then-word_leads : goal.returns-then-word_leads
returns-then-word_leads c = outright (search (leads_here, rules))

pub loop-rest-smaller : goal.loop-rest-smaller
loop-rest-smaller c = outright (search (rest_shorter, rules))

pub loop-rest-preserved : goal.loop-rest-preserved
loop-rest-preserved c = outright (search (leads_next, rules))
