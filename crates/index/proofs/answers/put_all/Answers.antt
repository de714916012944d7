use borrow.Author.Rules.{rules}
use Rattle.text.proofs.Search.{outright}
use Rattle.index.proofs.AnswerLaws.{answering_start, answering_cut, answering_cut_text, answering_room, answering_more, answering_end}
use Rattle.index.proofs.AnswerLaws.{answering_text}
use Rattle.index.proofs.RequestLaws.{fields_within, rest_shorter}
use Rattle.index.proofs.answers.put_all.Goals as goal

pub loop-rest-init : goal.loop-rest-init
loop-rest-init c = outright (search (answering_start, rules))

pub returns-in-None : goal.returns-in-None
returns-in-None c = record { count = search (answering_cut, rules); written = search (answering_cut_text, rules) }

pub put_answer-next-requires : goal.put_answer-next-requires
put_answer-next-requires c = outright (search (answering_room, rules))

pub slice_bounds-following-count : goal.slice_bounds-following-count
slice_bounds-following-count c = outright (search (fields_within, rules))

pub slice_bounds-following-start : goal.slice_bounds-following-start
slice_bounds-following-start c = outright (search (fields_within, rules))

pub slice_bounds-following-end : goal.slice_bounds-following-end
slice_bounds-following-end c = outright (search (fields_within, rules))

pub loop-rest-smaller : goal.loop-rest-smaller
loop-rest-smaller c = outright (search (rest_shorter, rules))

pub loop-rest-preserved : goal.loop-rest-preserved
loop-rest-preserved c = outright (search (answering_more, rules))

pub returns : goal.returns
returns c = record { count = search (answering_end, rules); written = search (answering_text, rules) }
