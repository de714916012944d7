use borrow.Author.Rules.{rules}
use Rattle.text.proofs.Search.{outright}
use Rattle.views.proofs.NamesLaws.{hashing_start, hashing_more, hashing_end, hashing_small}
use Rattle.views.proofs.names.hash.Goals as goal

pub loop-i-init : goal.loop-i-init
loop-i-init c = outright (search (hashing_start, rules))

pub overflow_mul-made : goal.overflow_mul-made
overflow_mul-made c = outright (search (hashing_small, rules))

pub overflow_add-made : goal.overflow_add-made
overflow_add-made c = outright (search (hashing_small, rules))

pub loop-i-preserved : goal.loop-i-preserved
loop-i-preserved c = outright (search (hashing_more, rules))

pub returns : goal.returns
returns c = outright (search (hashing_end, rules))
