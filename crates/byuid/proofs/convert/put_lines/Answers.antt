use borrow.Author.Rules.{rules}
use Rattle.text.proofs.Search.{outright}
use Rattle.byuid.proofs.ConvertLaws.{converting_start, converting_last, converting_on, converting_end}
use Rattle.byuid.proofs.convert.put_lines.Goals as goal

pub loop-at-init : goal.loop-at-init
loop-at-init c = outright (search (converting_start, rules))

pub returns-then-end-text : goal.returns-then-end-text
returns-then-end-text c = outright (search (converting_last, rules))

pub loop-at-preserved : goal.loop-at-preserved
loop-at-preserved c = outright (search (converting_on, rules))

pub returns : goal.returns
returns c = outright (search (converting_end, rules))
