use borrow.Author.Rules.{rules}
use Rattle.text.proofs.ScanLaws.{span_len_end}
use Rattle.text.proofs.Search.{outright}
use Rattle.lines.proofs.RuleLaws.{passed_more, passed_stop}
use Rattle.classes.proofs.parting_length.Goals as goal

pub loop-i-preserved : goal.loop-i-preserved
loop-i-preserved c = outright (search (passed_more, rules))

pub returns-then-not-is_parting : goal.returns-then-not-is_parting
returns-then-not-is_parting c = outright (search (passed_stop, rules))

pub returns : goal.returns
returns c = outright (search (span_len_end, rules))
