use borrow.Author.Rules.{rules}
use Rattle.text.proofs.Search.{outright}
use Rattle.tidy.proofs.KeptLaws.{measuring_start, measuring_number, measuring_fits, measuring_more, measuring_end}
use Rattle.tidy.proofs.kept.kept_len.Goals as goal

pub loop-i-init : goal.loop-i-init
loop-i-init c = outright (search (measuring_start, rules))

pub kept_size-len-requires : goal.kept_size-len-requires
kept_size-len-requires c = outright (search (measuring_number, rules))

pub overflow_add-len : goal.overflow_add-len
overflow_add-len c = outright (search (measuring_fits, rules))

pub loop-i-preserved : goal.loop-i-preserved
loop-i-preserved c = outright (search (measuring_more, rules))

pub returns : goal.returns
returns c = outright (search (measuring_end, rules))
