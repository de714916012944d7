use borrow.Author.Rules.{rules}
use Rattle.text.proofs.Search.{outright}
use Rattle.tables.proofs.StartLaws.{keyed_start, keyed_more, keyed_end, keyed_small}
use Rattle.tables.proofs.start.key.Goals as goal

pub loop-i-init : goal.loop-i-init
loop-i-init c = outright (search (keyed_start, rules))

pub overflow_mul-made : goal.overflow_mul-made
overflow_mul-made c = outright (search (keyed_small, rules))

pub overflow_add-made : goal.overflow_add-made
overflow_add-made c = outright (search (keyed_small, rules))

pub loop-i-preserved : goal.loop-i-preserved
loop-i-preserved c = outright (search (keyed_more, rules))

pub returns : goal.returns
returns c = record { number = search (keyed_end, rules); within = search (keyed_small, rules) }
