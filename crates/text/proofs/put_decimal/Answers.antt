use Rattle.text.proofs.Writing.{written_start, written_step, written_all}
use borrow.Author.Rules.{rules}
use Rattle.text.proofs.Search.{outright}
use Rattle.text.proofs.put_decimal.Goals as goal

pub loop-j-init : goal.loop-j-init
loop-j-init c = outright (search (written_start, rules))

pub loop-j-preserved : goal.loop-j-preserved
loop-j-preserved c = outright (search (written_step, rules))

pub returns : goal.returns
returns c = search (written_all, rules)
