-- `tidy::repeats::note_joined` meets its contract: the part of the buffer that is written is the joined line. Assumes nothing.
use borrow.Author.Rules.{rules}
use Rattle.text.proofs.Search.{outright}
use Rattle.tidy.proofs.RepeatLaws.{joined_length, joined_all, joined_marks, joined_links}
use Rattle.tidy.proofs.repeats.note_joined.Goals as goal

pub slice_bounds-note_rule-end : goal.slice_bounds-note_rule-end
slice_bounds-note_rule-end c = outright (search (joined_length, rules))

pub returns : goal.returns
returns c = record { answer = search (joined_all, rules); marked = search (joined_marks, rules); hung = search (joined_links, rules) }
