use borrow.Author.Rules.{rules}
use Rattle.text.proofs.Search.{outright}
use Rattle.index.proofs.RequestLaws.{parting_start, parting_full, parting_cut, parting_more, parting_end, fields_within, fields_some}
use Rattle.index.proofs.requests.count_requests.Goals as goal

pub loop-rest-init : goal.loop-rest-init
loop-rest-init c = outright (search (parting_start, rules))

pub returns-then-count-eq32 : goal.returns-then-count-eq32
returns-then-count-eq32 c = outright (search (parting_full, rules))

pub returns-in-None : goal.returns-in-None
returns-in-None c = outright (search (parting_cut, rules))

pub slice_bounds-next-count : goal.slice_bounds-next-count
slice_bounds-next-count c = outright (search (fields_within, rules))

pub slice_bounds-next-start : goal.slice_bounds-next-start
slice_bounds-next-start c = outright (search (fields_within, rules))

pub slice_bounds-next-end : goal.slice_bounds-next-end
slice_bounds-next-end c = outright (search (fields_within, rules))

pub loop-rest-smaller : goal.loop-rest-smaller
loop-rest-smaller c = outright (search (fields_some, fields_within, rules))

pub loop-rest-preserved : goal.loop-rest-preserved
loop-rest-preserved c = outright (search (parting_more, rules))

pub returns : goal.returns
returns c = outright (search (parting_end, rules))
