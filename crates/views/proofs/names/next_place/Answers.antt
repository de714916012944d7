use borrow.Author.Rules.{rules}
use Rattle.text.proofs.Search.{outright}
use Rattle.views.proofs.NamesLaws.{skip_one, found_here, found_none}
use Rattle.views.proofs.names.next_place.Goals as goal

pub returns-then-notes-i : goal.returns-then-notes-i
returns-then-notes-i c = record { passed = search rules; found = search (found_here, rules) }

pub loop-i-preserved : goal.loop-i-preserved
loop-i-preserved c = outright (search (skip_one, rules))

pub returns : goal.returns
returns c = record { passed = search rules; found = search (found_none, rules) }
