use borrow.Author.Rules.{rules}
use Rattle.text.proofs.Search.{outright}
use Rattle.tables.proofs.EntryLaws.{frame_short, frame_start, frame_cut, frame_more, frame_sound, frame_trailing}
use Rattle.tables.proofs.entry.frame.Goals as goal

pub returns-then-tables-lt2 : goal.returns-then-tables-lt2
returns-then-tables-lt2 c = outright (search (frame_short, rules))

pub loop-left-init : goal.loop-left-init
loop-left-init c = outright (search (frame_start, rules))

pub returns-then-span : goal.returns-then-span
returns-then-span c = outright (search (frame_cut, rules))

pub loop-left-preserved : goal.loop-left-preserved
loop-left-preserved c = outright (search (frame_more, rules))

pub returns-then-rest-eq0 : goal.returns-then-rest-eq0
returns-then-rest-eq0 c = outright (search (frame_sound, rules))

pub returns : goal.returns
returns c = outright (search (frame_trailing, rules))
