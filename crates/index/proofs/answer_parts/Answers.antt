-- `answer_parts` meets its contract: the requests are counted, then room is looked for, then they are answered. Assumes nothing.
use borrow.Author.Rules.{rules}
use Rattle.text.proofs.Search.{outright}
use Rattle.index.proofs.CallLaws.{all_unparted, unparted_untouched, all_no_room, no_room_untouched, all_fitting, all_count, all_text_lem}
use Rattle.index.proofs.answer_parts.Goals as goal

pub returns-then-out-n : goal.returns-then-out-n
returns-then-out-n c = record { answer = search (all_no_room, rules); holds = search (no_room_untouched, rules) }

pub put_answers-requires : goal.put_answers-requires
put_answers-requires c = outright (search (all_fitting, rules))

pub returns-in-None : goal.returns-in-None
returns-in-None c = record { answer = search (all_unparted, rules); holds = search (unparted_untouched, rules) }

pub returns-else-out-n : goal.returns-else-out-n
returns-else-out-n c = record { answer = search (all_count, rules); holds = search (all_text_lem, rules) }
