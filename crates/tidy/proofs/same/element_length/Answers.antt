use borrow.Author.Rules.{rules}
use Rattle.text.proofs.ScanLaws.{span_len_end}
use Rattle.text.proofs.Search.{outright}
use Rattle.tidy.proofs.ListLaws.{element_stop, element_more}
use Rattle.tidy.proofs.same.element_length.Goals as goal

pub returns-then-is_parting : goal.returns-then-is_parting
returns-then-is_parting c = outright (search (element_stop, rules))

pub loop-i-preserved : goal.loop-i-preserved
loop-i-preserved c = outright (search (element_more, rules))

pub returns : goal.returns
returns c = outright (search (span_len_end, rules))
