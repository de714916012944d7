use borrow.Author.Rules.{rules}
use Rattle.text.proofs.Search.{outright}
use Rattle.views.proofs.NamesLaws.{noting_start, noting_cut, noting_within, noting_place, noting_byte_place, noting_more, noting_end}
use Rattle.views.proofs.names.note_names.Goals as goal

pub loop-i-init : goal.loop-i-init
loop-i-init c = outright (search (noting_start, rules))

pub returns-then-span : goal.returns-then-span
returns-then-span c = outright (search (noting_cut, rules))

pub overflow_add-notes : goal.overflow_add-notes
overflow_add-notes c = outright (search (noting_place, rules))

pub offset_bounds-notes-i : goal.offset_bounds-notes-i
offset_bounds-notes-i c = outright (search (noting_place, rules))

pub bounds-notes-i : goal.bounds-notes-i
bounds-notes-i c = outright (search (noting_place, rules))

pub overflow_sub-notes : goal.overflow_sub-notes
overflow_sub-notes c = outright (search (noting_within, rules))

pub overflow_add-notes-in-loop-i : goal.overflow_add-notes-in-loop-i
overflow_add-notes-in-loop-i c = outright (search (noting_byte_place, rules))

pub offset_bounds-notes-i-in-loop-i : goal.offset_bounds-notes-i-in-loop-i
offset_bounds-notes-i-in-loop-i c = outright (search (noting_byte_place, rules))

pub bounds-notes-i-in-loop-i : goal.bounds-notes-i-in-loop-i
bounds-notes-i-in-loop-i c = outright (search (noting_byte_place, rules))

pub loop-i-preserved : goal.loop-i-preserved
loop-i-preserved c = outright (search (noting_more, rules))

pub returns : goal.returns
returns c = outright (search (noting_end, rules))
