-- `tidy::repeats::note_rule` meets its contract: it is marked, or hung. Assumes nothing.
use borrow.Author.Rules.{rules}
use Rattle.text.proofs.Search.{outright}
use Rattle.tidy.proofs.RepeatLaws.{repeat_all, repeat_marks, repeat_links, second_write, new_all, new_marks, new_links}
use Rattle.tidy.proofs.repeats.note_rule.Goals as goal

pub returns-then-is_repeated : goal.returns-then-is_repeated
returns-then-is_repeated c =
    record { answer = search (repeat_all, rules); marked = search (repeat_marks, rules); hung = search (repeat_links, rules) }

pub bounds-links-b : goal.bounds-links-b
bounds-links-b c = outright (search (second_write, rules))

pub returns : goal.returns
returns c = record { answer = search (new_all, rules); marked = search (new_marks, rules); hung = search (new_links, rules) }
