use borrow.Author.Rules.{rules}
use Rattle.text.proofs.Search.{outright}
use Rattle.tidy.proofs.NumberLaws.{putting_start, putting_room, putting_more, putting_end}
use Rattle.tidy.proofs.numbers.put_numbers.Goals as goal

pub loop-n-init : goal.loop-n-init
loop-n-init c = outright (search (putting_start, rules))

pub put_marked-next-requires : goal.put_marked-next-requires
put_marked-next-requires c = record { n_in_bounds = search rules; n_in_bounds_2 = search (putting_room, rules) }

pub loop-n-preserved : goal.loop-n-preserved
loop-n-preserved c = outright (search (putting_more, rules))

pub returns : goal.returns
returns c = outright (search (putting_end, rules))
