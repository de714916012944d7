use borrow.Author.Rules.{rules}
use Rattle.text.proofs.Search.{outright}
use Rattle.tidy.proofs.RepeatLaws.{seeking_start, seeking_ended, seeking_past, seeking_found, seeking_on, seeking_end, place_some, place_within}
use Rattle.tidy.proofs.RepeatLaws.{place_link}
use Rattle.tidy.proofs.repeats.is_repeated.Goals as goal

pub loop-left-init : goal.loop-left-init
loop-left-init c = outright (search (seeking_start, rules))

pub returns-then-at-eq0 : goal.returns-then-at-eq0
returns-then-at-eq0 c = outright (search (seeking_ended, rules))

pub returns-then-text-at : goal.returns-then-text-at
returns-then-text-at c = outright (search (seeking_past, rules))

pub overflow_sub-place : goal.overflow_sub-place
overflow_sub-place c = outright (search (place_some, rules))

pub is_same_at-requires : goal.is_same_at-requires
is_same_at-requires c = outright (search (place_within, rules))

pub returns-then-is_same_at : goal.returns-then-is_same_at
returns-then-is_same_at c = outright (search (seeking_found, rules))

pub link_at-at-requires : goal.link_at-at-requires
link_at-at-requires c = outright (search (place_link, rules))

pub loop-left-preserved : goal.loop-left-preserved
loop-left-preserved c = outright (search (seeking_on, rules))

pub returns : goal.returns
returns c = outright (search (seeking_end, rules))
