-- `word_leads` meets its contract. Assumes nothing.
use borrow.Author.Rules.{rules}
use Rattle.text.proofs.Search.{outright}
use Rattle.views.proofs.NoteLaws.{named_full, leads_unnamed, leads_named}
use Rattle.views.proofs.word_leads.Goals as goal

pub slice_bounds-name_leads-count : goal.slice_bounds-name_leads-count
slice_bounds-name_leads-count c = outright (search (named_full, rules))

pub slice_bounds-name_leads-start : goal.slice_bounds-name_leads-start
slice_bounds-name_leads-start c = outright (search (named_full, rules))

pub returns-then-names_table : goal.returns-then-names_table
returns-then-names_table c = outright (search (leads_named, rules))

pub returns : goal.returns
returns c = outright (search (leads_unnamed, rules))
