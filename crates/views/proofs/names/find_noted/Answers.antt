use borrow.Author.Rules.{rules}
use Rattle.text.proofs.Search.{outright}
use Rattle.views.proofs.NamesLaws.{other_found, seeking_start, seeking_found, seeking_less, seeking_more, seeking_end}
use Rattle.views.proofs.names.find_noted.Goals as goal

pub returns-then-notes-ne259 : goal.returns-then-notes-ne259
returns-then-notes-ne259 c = outright (search (other_found, rules))

pub loop-i-init : goal.loop-i-init
loop-i-init c = outright (search (seeking_start, rules))

pub returns-then-is_named_at : goal.returns-then-is_named_at
returns-then-is_named_at c = outright (search (seeking_found, rules))

pub loop-i-smaller : goal.loop-i-smaller
loop-i-smaller c = outright (search (seeking_less, rules))

pub loop-i-preserved : goal.loop-i-preserved
loop-i-preserved c = outright (search (seeking_more, rules))

pub returns : goal.returns
returns c = outright (search (seeking_end, rules))
