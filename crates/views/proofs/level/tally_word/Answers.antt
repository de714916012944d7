-- `level::tally_word` meets its contract. Assumes nothing.
use borrow.Author.Rules.{rules}
use Rattle.text.proofs.Search.{outright}
use Rattle.views.proofs.TallyLaws.{tally_ended, tally_match, tally_miss}
use Rattle.views.proofs.level.tally_word.Goals as goal

pub returns-then-t-eq0 : goal.returns-then-t-eq0
returns-then-t-eq0 c = outright (search (tally_ended, rules))

pub returns-then-matches : goal.returns-then-matches
returns-then-matches c = outright (search (tally_match, rules))

pub returns : goal.returns
returns c = outright (search (tally_miss, rules))
