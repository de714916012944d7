use borrow.Author.Rules.{rules}
use Rattle.text.proofs.PasteLaws.{pasted_start, pasted_all}
use Rattle.text.proofs.Search.{outright}
use Rattle.byuid.proofs.ConvertLaws.{pasted_step}
use Rattle.byuid.proofs.convert.put_bytes.Goals as goal

pub loop-j-init : goal.loop-j-init
loop-j-init c = outright (search (pasted_start, rules))

pub loop-j-preserved : goal.loop-j-preserved
loop-j-preserved c = outright (search (pasted_step, rules))

pub returns : goal.returns
returns c = search (pasted_all, rules)
